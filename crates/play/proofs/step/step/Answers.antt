-- `step` meets its promise: the packet is played, and its entry says the rest.
use Rattle.words.proofs.Kit.{arith, rules}
use Rattle.play.proofs.EntryLaws.{entered_small, stepped_on, stepped_last, entered_sayable}
use Rattle.play.proofs.step.step.Goals as goal

pub overflow_add-result : goal.overflow_add-result
overflow_add-result c = omega (arith, entered_small)

pub returns-then-e-ne0 : goal.returns-then-e-ne0
returns-then-e-ne0 c = search stepped_on

pub returns-else-e-ne0 : goal.returns-else-e-ne0
returns-else-e-ne0 c = search stepped_last

pub answer_of-requires : goal.answer_of-requires
answer_of-requires c = search entered_sayable
