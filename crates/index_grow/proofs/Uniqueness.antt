-- Two answers that meet the promise of growing are equal, with the table and the index that they leave: `told_paper` has a left inverse.
use Rattle.std.specs.Prelude.{Result}
use Rattle.words.proofs.Kit.{◌≡◌, List, ℕ}
use Rattle.words.specs.declared.RefusedAt.{RefusedAt}
use Rattle.words.specs.Outcome.{Meets}
use Rattle.words.specs.Told.{told_paper}
use Rattle.words.proofs.Once.{told_meets_once}
use Rattle.index_grow.specs.declared.Taken.{Taken}
use Rattle.index_grow.specs.Grow.{grow_told}

pub grow_once : (t ws ix : List ℕ) {r s : Result Taken RefusedAt} {after after' : List ℕ × List ℕ}
    → Meets told_paper (grow_told t ws ix) (t, ix) r after → Meets told_paper (grow_told t ws ix) (t, ix) s after' → (r ≡ s) × (after ≡ after')
grow_once t ws ix = told_meets_once
