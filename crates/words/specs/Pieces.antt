-- Numbered pieces, one after the other: the bodies of a page, the pairs of its contents, the records of a table.
use Rattle.std.specs.Prelude.{ℕ, zero, suc, List, [], ◌++◌}

-- the pieces of numbers 0 to n - 1
unfoldable pub pieces : ℕ → (ℕ → List ℕ) → List ℕ
pieces zero f = []
pieces (suc n) f = pieces n f ++ f n
