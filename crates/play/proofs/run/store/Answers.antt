-- `store` meets its promise: five stores make the five words.
use Rattle.words.proofs.Kit.{arith, rules}
use lib.ListN.{length-set}
use Rattle.play.proofs.RunLaws.{entry_stored}
use Rattle.play.proofs.run.store.Goals as goal

pub bounds-place-4 : goal.bounds-place-4
bounds-place-4 c = simp length-set (omega arith)

pub returns : goal.returns
returns c = search entry_stored
