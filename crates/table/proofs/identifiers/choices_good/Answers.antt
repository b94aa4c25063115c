-- `choices_good` meets its promise: the choices passed are 0 or 1.
use Rattle.words.proofs.Kit.{arith, rules}
use Rattle.words.proofs.AllLaws.{all_none}
use Rattle.table.proofs.ListLaws.{choices_unlike, choices_fail, choices_turn, choices_end}
use Rattle.table.proofs.identifiers.choices_good.Goals as goal

pub returns-then-choices-n : goal.returns-then-choices-n
returns-then-choices-n c = search choices_unlike

pub loop-choice-init : goal.loop-choice-init
loop-choice-init c = search (rules, all_none)

pub returns-then-choice-gt1 : goal.returns-then-choice-gt1
returns-then-choice-gt1 c = choices_fail _ _ c.loop-choice.choice-index (search) (omega arith) (omega arith)

pub loop-choice-preserved : goal.loop-choice-preserved
loop-choice-preserved c = search choices_turn

pub returns : goal.returns
returns c = search (rules, choices_end)
