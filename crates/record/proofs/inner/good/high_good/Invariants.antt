-- `high_good` meets its promise: the slots of the bits passed are good (`Testing`).
use Rattle.words.proofs.Kit.{arith, rules}
use Rattle.record.proofs.GoodLaws.{Testing, testing_start, testing_slotted, testing_here, testing_head, testing_fits}
use Rattle.record.proofs.GoodLaws.{testing_fails, testing_turn, testing_end}
use Rattle.record.proofs.inner.good.high_good.Given as goal

abbrev pub invariant-loop-bit : goal.invariant-loop-bit
invariant-loop-bit l = Testing l.rec l.first l.past l.bit l.slot

abbrev pub decreases-loop-bit : goal.decreases-loop-bit
decreases-loop-bit l = l.bit
