-- Two answers that meet the promise of `coordinates_of` are equal.
use Rattle.words.proofs.Kit.{◌≡◌, ℕ}
use Rattle.std.specs.Prelude.{Result}
use Rattle.words.specs.declared.refusals.Refusal.{Refusal}
use Rattle.words.specs.Listed.{on_paper}
use Rattle.words.proofs.Once.{on_paper_once}
use Rattle.payload_order.specs.declared.Coordinates.{Coordinates}
use Rattle.payload_order.specs.Numbering.{coordinates_of}

pub coordinates_once : (first second n item : ℕ) (r s : Result Coordinates Refusal) → on_paper r ≡ coordinates_of first second n item
    → on_paper s ≡ coordinates_of first second n item → r ≡ s
coordinates_once first second n item r s = on_paper_once
