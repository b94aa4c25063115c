-- `has_rule` meets its promise: the bits of the constant are the fields that have a rule, by a test that computes once over all bits.
use Rattle.fields.proofs.RuleLaws.{ruled_bit}
use Rattle.fields.proofs.inner.rules.has_rule.Goals as goal

pub returns : goal.returns
returns c = search ruled_bit
