-- The set bits of a number. Document 01: "Fields follow from bit 30 downwards"; "The number of fields and the next field to read follow
-- from the indicator's set bits".
use Rattle.std.specs.Prelude.{ℕ, zero, suc, List, [], ◌∷◌, ltb}
use Rattle.words.specs.Tests.{pick}
use Rattle.words.specs.Word.{has}

-- the set bits of n below bit k, highest first
unfoldable pub bits_of : ℕ → ℕ → List ℕ
bits_of zero n = []
bits_of (suc k) n = pick (has n k) (k ∷ bits_of k n) (bits_of k n)

-- those of a list that stand above bit b
unfoldable pub above : ℕ → List ℕ → List ℕ
above b [] = []
above b (x ∷ xs) = pick (ltb b x) (x ∷ above b xs) (above b xs)
