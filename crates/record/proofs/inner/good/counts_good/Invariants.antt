-- `counts_good` meets its promise: the counts passed are good.
use Rattle.words.proofs.Kit.{◌-◌, rules}
use Rattle.record.specs.Good.{count_good_at}
use Rattle.record.proofs.GoodLaws.{Passing, passing_start, passing_end, counts_fail, counts_turn}
use Rattle.record.proofs.inner.good.counts_good.Given as goal

abbrev pub invariant-loop-k : goal.invariant-loop-k
invariant-loop-k l = Passing 4 (count_good_at l.rec) l.k

abbrev pub decreases-loop-k : goal.decreases-loop-k
decreases-loop-k l = 4 - l.k
