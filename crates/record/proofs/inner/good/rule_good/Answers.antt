-- `rule_good` meets its promise: a rule is a limit of the first word and what else is asked; of a state word, that it can be held.
use Rattle.record.proofs.GoodLaws.{held_broken, held_more, held_state}
use Rattle.std.proofs.Common.{rules}
use Rattle.record.proofs.inner.good.rule_good.Goals as goal

pub returns-then-bit-eq16 : goal.returns-then-bit-eq16
returns-then-bit-eq16 c = search held_state

pub returns-then-first_ok : goal.returns-then-first_ok
returns-then-first_ok c = search held_more

pub returns : goal.returns
returns c = search held_broken
