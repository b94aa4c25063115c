-- `high_good` meets its promise: the slots of the bits passed are good (`Testing`).
use Rattle.words.proofs.Kit.{arith, rules}
use Rattle.record.proofs.GoodLaws.{Testing, testing_start, testing_slotted, testing_here, testing_head, testing_fits}
use Rattle.record.proofs.GoodLaws.{testing_fails, testing_turn, testing_end}
use Rattle.record.proofs.inner.good.high_good.Goals as goal

pub loop-bit-init : goal.loop-bit-init
loop-bit-init c = testing_start _ _ _ _ (omega arith) (omega arith) (omega arith) (search)

pub overflow_add-slot : goal.overflow_add-slot
overflow_add-slot c = search testing_head

pub limit_good-requires : goal.limit_good-requires
limit_good-requires c = (search, search rules, search testing_slotted, search testing_here, search)

pub returns-then-not-limit_good : goal.returns-then-not-limit_good
returns-then-not-limit_good c = search testing_fails

pub overflow_add-slot-in-loop-bit : goal.overflow_add-slot-in-loop-bit
overflow_add-slot-in-loop-bit c = search testing_fits

pub loop-bit-preserved : goal.loop-bit-preserved
loop-bit-preserved c = search testing_turn

pub returns : goal.returns
returns c = search testing_end
