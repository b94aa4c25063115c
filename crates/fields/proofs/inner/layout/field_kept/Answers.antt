-- `field_kept` meets its promise: a field that has no rule obeys.
use Rattle.fields.proofs.RuleLaws.{unruled_kept}
use Rattle.fields.proofs.inner.layout.field_kept.Goals as goal

pub returns-then-not-has_rule : goal.returns-then-not-has_rule
returns-then-not-has_rule c = rw c.if-not-has_rule.true (search unruled_kept)
