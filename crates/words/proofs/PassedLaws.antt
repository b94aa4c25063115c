-- The refusal that `?` passes on is the one that it was given.
use Rattle.std.specs.Prelude.{Result, Ok, Err}
use Rattle.std.specs.Result.{IsErrAnd}
use Rattle.words.proofs.Kit.{◌≡◌, ap}
use Rattle.words.specs.declared.refusals.Refusal.{Refusal}

pub passed : {A : Type 0} {k : Refusal} (r : Result A Refusal) → IsErrAnd r (λ y. y ≡ k) → r ≡ Err k
passed (Ok a) e = absurd e
passed (Err y) e = ap Err e
