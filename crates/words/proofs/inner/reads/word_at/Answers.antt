-- `word_at` meets its promise. Past the end `get_or` gives its default, 0.
use Rattle.words.proofs.Kit.{sym, rules}
use lib.ListN.{get_or-eq_default}
use Rattle.words.proofs.inner.reads.word_at.Goals as goal

pub returns-else-i-ws : goal.returns-else-i-ws
returns-else-i-ws c = sym (get_or-eq_default c.args.ws.now 0 c.if-i-ws.false)
