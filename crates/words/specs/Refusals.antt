-- Document 01, 'Numbers given back': "The first that applies is given, in these orders."
use Rattle.std.specs.Prelude.{ℕ, Bool, List, [], ◌∷◌}
use Rattle.words.specs.Tests.{pick, both}
use Rattle.words.specs.Outcome.{Reply, refused}

-- a call's refusals in their order: what each says, and whether it applies
abbrev pub RefusalsOf : Type 0 → Type 0
RefusalsOf R = List (R × Bool)

-- those that say a number
abbrev pub Refusals : Type 0
Refusals = RefusalsOf ℕ

-- the first that applies is given, and else the answer
abbrev pub first_given : {R A : Type 0} → RefusalsOf R → Reply R A → Reply R A
first_given [] answer = answer
first_given (r ∷ rest) answer = pick r.1 (refused r.0) (first_given rest answer)

-- refusals that apply only where a test holds
abbrev pub only_where : Bool → Refusals → Refusals
only_where t [] = []
only_where t (r ∷ rest) = (r.0, both t r.1) ∷ only_where t rest

-- what they say, in their order
abbrev pub given_in : {R : Type 0} → RefusalsOf R → List R
given_in [] = []
given_in (r ∷ rest) = r.0 ∷ given_in rest
