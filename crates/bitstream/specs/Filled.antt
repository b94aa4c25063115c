-- What a call that fills the first places of a buffer leaves in it.
use Rattle.std.specs.Prelude.{ℕ, zero, suc, List, [], ◌∷◌, ◌++◌, drop}

-- the list of `h 0` to `h (n - 1)`
unfoldable pub list_of : ℕ → (ℕ → ℕ) → List ℕ
list_of zero h = []
list_of (suc n) h = list_of n h ++ (h n ∷ [])

-- `h 0` to `h (n - 1)`, and then what stood in l after its first n places
unfoldable pub filled : ℕ → (ℕ → ℕ) → List ℕ → List ℕ
filled n h l = list_of n h ++ drop n l
