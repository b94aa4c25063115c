-- Words as one big number.
use Rattle.std.specs.Prelude.{ℕ, ◌+◌, ◌*◌, ◌^◌, List, [], ◌∷◌, length}

-- the first word at the left
unfoldable pub value : List ℕ → ℕ
value [] = 0
value (w ∷ ws) = w * 2 ^ (length ws * 32) + value ws
