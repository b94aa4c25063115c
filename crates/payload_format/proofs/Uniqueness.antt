-- Two answers that meet the promise of `signed` are equal.
use Rattle.words.proofs.Kit.{◌≡◌, ℕ}
use lib.IntN.{ℤ}
use Rattle.std.specs.Prelude.{Result}
use Rattle.words.specs.declared.refusals.Refusal.{Refusal}
use Rattle.words.specs.Listed.{on_paper}
use Rattle.words.proofs.Once.{on_paper_once}
use Rattle.payload_format.specs.Signs.{signed_of}

pub signed_once : (width item : ℕ) (r s : Result ℤ Refusal) → on_paper r ≡ signed_of width item → on_paper s ≡ signed_of width item → r ≡ s
signed_once width item r s = on_paper_once
