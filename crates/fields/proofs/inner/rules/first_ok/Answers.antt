-- `first_ok` meets its promise: a word below the least limit is below its own.
use Rattle.words.proofs.Kit.{sym, lt-ltb, ◌∙◌, rules}
use Rattle.fields.proofs.RuleLaws.{first_small}
use Rattle.fields.proofs.inner.rules.first_ok.Goals as goal

pub returns-then-word-lt65536 : goal.returns-then-word-lt65536
returns-then-word-lt65536 c = (lt-ltb _ _ c.if-word-lt65536.true ∙ sym (first_small _ _ c.if-word-lt65536.true), search rules)
