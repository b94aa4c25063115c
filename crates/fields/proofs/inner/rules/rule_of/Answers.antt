-- `rule_of` meets its promise: a rule is a limit of the first word and what else is asked.
use Rattle.fields.proofs.RuleLaws.{word_more, word_over}
use Rattle.fields.proofs.inner.rules.rule_of.Goals as goal

pub returns-then-first_ok : goal.returns-then-first_ok
returns-then-first_ok c = search word_more

pub returns-else-first_ok : goal.returns-else-first_ok
returns-else-first_ok c = search word_over
