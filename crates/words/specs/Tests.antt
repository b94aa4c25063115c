-- Tests, and the value that a test picks.
use Rattle.std.specs.Prelude.{ℕ, Bool, true, false, List, [], ◌∷◌, eqb}

-- the first where the test holds, and else the second
abbrev pub pick : {A : Type 0} → Bool → A → A → A
pick true a b = a
pick false a b = b

-- the number where the test holds, and else 0: how many words an optional part takes, and what an absent one reads as
abbrev pub when : Bool → ℕ → ℕ
when t n = pick t n 0

-- the tests hold both
abbrev pub both : Bool → Bool → Bool
both true b = b
both false b = false

-- one test holds or the other
abbrev pub either : Bool → Bool → Bool
either a b = pick a true b

-- two lists of words are the same, word for word
unfoldable pub same_words : List ℕ → List ℕ → Bool
same_words [] [] = true
same_words [] (y ∷ ys) = false
same_words (x ∷ xs) [] = false
same_words (x ∷ xs) (y ∷ ys) = both (eqb x y) (same_words xs ys)

-- n is one of the list
abbrev pub among : ℕ → List ℕ → Bool
among n [] = false
among n (x ∷ xs) = pick (eqb n x) true (among n xs)
