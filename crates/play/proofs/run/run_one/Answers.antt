-- `run_one` meets its promise: a run with room for one entry writes that of the packet at its place, and `one_entered` says which.
use Rattle.play.proofs.RunLaws.{one_entered}
use borrow.Author.Rules.{rules}
use Rattle.play.proofs.run.run_one.Goals as goal

pub returns : goal.returns
returns c = search one_entered
