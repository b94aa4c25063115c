-- Two answers that meet the promise of a jump are equal, with the table that they leave.
use Rattle.std.specs.Prelude.{Result}
use Rattle.words.proofs.Kit.{◌≡◌, List, ℕ}
use Rattle.words.specs.declared.refusals.Refusal.{Refusal}
use Rattle.words.specs.Outcome.{Meets}
use Rattle.words.specs.Listed.{on_paper}
use Rattle.words.proofs.Once.{on_paper_meets_once}
use Rattle.index_jump.specs.declared.Landed.{Landed}
use Rattle.index_jump.specs.Jump.{jump_of}

pub jump_once : (ws : List ℕ) (first : ℕ) (ix : List ℕ) (n : ℕ) (t : List ℕ) {r s : Result Landed Refusal} {after after' : List ℕ}
    → Meets on_paper (jump_of ws first ix n t) t r after → Meets on_paper (jump_of ws first ix n t) t s after' → (r ≡ s) × (after ≡ after')
jump_once ws first ix n t = on_paper_meets_once
