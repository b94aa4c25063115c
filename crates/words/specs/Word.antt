-- A word of 32 bits, in the two ways that document 01 speaks of one: by the numbers of its bits, and as fields beside each other.
use Rattle.std.specs.Prelude.{ℕ, zero, suc, ◌+◌, ◌-◌, ◌*◌, ◌/◌, ◌%◌, ◌^◌, ◌<◌, Bool, List, [], ◌∷◌, eqb}
use Rattle.words.specs.Tests.{when}

-- ---- by the numbers of its bits

-- "bits hi-lo" of a word, as a number: `bits 31 28` is a header's type
abbrev pub bits : ℕ → ℕ → ℕ → ℕ
bits hi zero w = w % 2 ^ suc hi
bits hi (suc lo) w = w / 2 ^ suc lo % 2 ^ (hi - lo)

-- bit k of a word is set
abbrev pub has : ℕ → ℕ → Bool
has w k = eqb (w / 2 ^ k % 2) 1

-- the word of which each bit below k is set where the test of its number holds, and no other
unfoldable pub marked : ℕ → (ℕ → Bool) → ℕ
marked zero f = 0
marked (suc k) f = marked k f + when (f k) (2 ^ k)

-- two words as one number, high first
abbrev pub high_first : ℕ → ℕ → ℕ
high_first high low = high * 2 ^ 32 + low

-- ---- as fields, by their widths from the right

-- the word of these field values
unfoldable pub join : List ℕ → List ℕ → ℕ
join [] fs = 0
join (w ∷ ws) [] = 0
join (w ∷ ws) (f ∷ fs) = f + 2 ^ w * join ws fs

-- the field values of a word
unfoldable pub split : List ℕ → ℕ → List ℕ
split [] n = []
split (w ∷ ws) n = n % 2 ^ w ∷ split ws (n / 2 ^ w)

-- the widths together
unfoldable pub total : List ℕ → ℕ
total [] = 0
total (w ∷ ws) = w + total ws

-- each value fits its width, and there is one for each
abbrev pub Within : List ℕ → List ℕ → Type 0
Within [] [] = Unit
Within [] (f ∷ fs) = ⊥
Within (w ∷ ws) [] = ⊥
Within (w ∷ ws) (f ∷ fs) = (f < 2 ^ w) × Within ws fs
