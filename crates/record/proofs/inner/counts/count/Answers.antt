-- `count` meets its promise: the count's words are lent, and `count_lent` says what that leaves.
use Rattle.record.proofs.CountLaws.{count_three, count_small, count_adds, count_lent}
use Rattle.std.proofs.Common.{rules}
use Rattle.record.proofs.inner.counts.count.Goals as goal

pub count_words-requires : goal.count_words-requires
count_words-requires c = (search count_three, search rules, search count_small)

pub returns : goal.returns
returns c = (search count_adds, search count_lent)
