-- A test at every number below a bound: what each loop that checks says, and each that looks for something.
use Rattle.std.specs.Prelude.{ℕ, zero, suc, Bool, true, List, eqb, ltb, get_or}
use Rattle.words.specs.Tests.{pick, both}

-- f passes at each number below n
unfoldable pub all : ℕ → (ℕ → Bool) → Bool
all zero f = true
all (suc n) f = both (all n f) (f n)

-- the first number below n at which f passes, and n where there is none: what each loop that looks for something says
unfoldable pub first_of : ℕ → (ℕ → Bool) → ℕ
first_of zero f = zero
first_of (suc n) f = pick (ltb (first_of n f) n) (first_of n f) (pick (f n) n (suc n))

-- a table has the value of f at each of its first n entries
abbrev pub tabled : ℕ → (ℕ → ℕ) → List ℕ → Bool
tabled n f xs = all n (λ i. eqb (get_or xs i 0) (f i))
