-- A part of a list, and a list with a part replaced. Both are shut: the laws in proofs/PartLaws.antt say all that callers use.
use Rattle.std.specs.Prelude.{ℕ, List, ◌++◌, take, drop}

-- the n words from word a on
unfoldable pub part : ℕ → ℕ → List ℕ → List ℕ
part a n xs = take n (drop a xs)

-- the list with its n words from word a on replaced by ys
unfoldable pub put : ℕ → ℕ → List ℕ → List ℕ → List ℕ
put a n ys xs = take a xs ++ (ys ++ drop n (drop a xs))
