-- `walk_run` meets its promise: the packets are all there where the run has so many entries and the last goes on.
use Rattle.words.proofs.Kit.{rules}
use Rattle.index_jump.proofs.RunLaws.{run_fewer, run_stopped, run_there}
use Rattle.index_jump.proofs.landing.walk_run.Goals as goal

pub returns-then-reached-n : goal.returns-then-reached-n
returns-then-reached-n c = search run_fewer

pub returns-then-entries-end-eq0 : goal.returns-then-entries-end-eq0
returns-then-entries-end-eq0 c = search run_stopped

pub returns : goal.returns
returns c = let a = c.args in
    run_there a.n a.given.now a.from a.table.now a.entries.now _ _ _ _ (search) (search) (search) c.run_on-reached.ensures (search)
    c.if-entries-end-eq0.false
