-- `play_run` meets its promise: a table that is not well made is refused, and else the run goes over it.
use Rattle.words.proofs.Kit.{sym}
use Rattle.play.proofs.RunLaws.{run_unmade, run_made}
use Rattle.play.proofs.play_run.Goals as goal

pub returns-in_default : goal.returns-in_default
returns-in_default c = run_unmade _ _ _ _ (sym c.in_default.ensures)

pub returns : goal.returns
returns c = run_made _ _ _ _ _ _ _ (sym c.in-true.ensures) c.run_on.ensures
