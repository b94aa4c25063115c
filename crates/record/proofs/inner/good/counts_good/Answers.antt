-- `counts_good` meets its promise: the counts passed are good.
use Rattle.words.proofs.Kit.{◌-◌, rules}
use Rattle.record.specs.Good.{count_good_at}
use Rattle.record.proofs.GoodLaws.{Passing, passing_start, passing_end, counts_fail, counts_turn}
use Rattle.record.proofs.inner.good.counts_good.Goals as goal

pub loop-k-init : goal.loop-k-init
loop-k-init c = search passing_start

pub returns-then-not-count_good : goal.returns-then-not-count_good
returns-then-not-count_good c = search counts_fail

pub loop-k-preserved : goal.loop-k-preserved
loop-k-preserved c = search counts_turn

pub returns : goal.returns
returns c = search passing_end
