-- Results on paper, and the numbers of the list.
use Rattle.std.specs.Prelude.{Result, Ok, Err}
use Rattle.std.specs.Result.{IsErrAnd}
use Rattle.words.proofs.Kit.{◌≡◌, ◌∙◌, ap, ℕ, ◌<◌, arith}
use Rattle.words.specs.declared.refusals.Refusal.{Refusal}
use Rattle.words.specs.declared.refusals.Refusal.TheVariants as refusals
use Rattle.words.specs.Listed.{list_number, on_paper, IsListed}
use Rattle.words.specs.Outcome.{Outcome, refused}

-- a refusal that `?` passes on
pub passed_on : {A : Type 0} (r : Result A Refusal) (k : Refusal) → IsErrAnd r (λ y. y ≡ k) → (want : Outcome A) → refused (list_number k) ≡ want
    → on_paper r ≡ want
passed_on (Ok a) k e want h = absurd e
passed_on (Err y) k e want h = ap (λ x. refused (list_number x)) e ∙ h

-- ---- numbers of the list

number_some : (k : Refusal) → 0 < list_number k
number_some refusals.Empty = omega arith
number_some refusals.Kind = omega arith
number_some refusals.Bits = omega arith
number_some refusals.Short = omega arith
number_some refusals.Cut = omega arith
number_some refusals.Class = omega arith
number_some refusals.Time = omega arith
number_some refusals.Indicator = omega arith
number_some refusals.Layout = omega arith
number_some refusals.Field = omega arith
number_some refusals.Stream = omega arith
number_some refusals.List = omega arith
number_some refusals.Room = omega arith
number_some refusals.Value = omega arith
number_some refusals.Size = omega arith
number_some refusals.Format = omega arith
number_some refusals.Count = omega arith
number_some refusals.Table = omega arith
number_some refusals.Page = omega arith
number_some refusals.Pad = omega arith
number_some refusals.Place = omega arith

pub listed_some : (n : ℕ) → IsListed n → 0 < n
listed_some n h = rw (← h.1) (number_some h.0)
