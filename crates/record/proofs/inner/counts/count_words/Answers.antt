-- `count_words` meets its promise: the three stores make the three words.
use Rattle.record.proofs.CountLaws.{count_stored}
use Rattle.std.proofs.Common.{rules}
use Rattle.record.proofs.inner.counts.count_words.Goals as goal

pub returns : goal.returns
returns c = (search rules, search count_stored)
