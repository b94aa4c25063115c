-- Two answers that meet the promise of a public call are equal, with the table that they leave: `told_paper` and `on_paper` have left inverses.
use Rattle.std.specs.Prelude.{Result}
use Rattle.words.proofs.Kit.{◌≡◌, List, ℕ}
use Rattle.words.specs.declared.refusals.Refusal.{Refusal}
use Rattle.words.specs.declared.RefusedAt.{RefusedAt}
use Rattle.words.specs.Listed.{on_paper}
use Rattle.words.specs.Outcome.{Meets}
use Rattle.words.specs.Told.{told_paper}
use Rattle.words.proofs.Once.{on_paper_meets_once, told_meets_once}
use Rattle.play.specs.Play.{play_told}
use Rattle.play.specs.Run.{run_of}
use Rattle.play.specs.declared.Heard.{Heard}
use Rattle.play.specs.declared.run.Reached.{Reached}

pub play_once : (t ws : List ℕ) {r s : Result Heard RefusedAt} {after after' : List ℕ} → Meets told_paper (play_told t ws) t r after
    → Meets told_paper (play_told t ws) t s after' → (r ≡ s) × (after ≡ after')
play_once t ws = told_meets_once

pub play_run_once : (t ws : List ℕ) (from : ℕ) (answers : List ℕ) {r s : Result Reached Refusal} {after after' : List ℕ × List ℕ}
    → Meets on_paper (run_of t ws from answers) (t, answers) r after → Meets on_paper (run_of t ws from answers) (t, answers) s after'
    → (r ≡ s) × (after ≡ after')
play_run_once t ws from answers = on_paper_meets_once
