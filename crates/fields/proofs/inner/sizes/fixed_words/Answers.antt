-- `fixed_words` meets its promise: the counts of the groups, each times its words, are the sum of the sizes.
use Rattle.fields.proofs.SizeLaws.{high_sizes, high_most, groups_sizes, groups_most}
use Rattle.fields.proofs.inner.sizes.fixed_words.Goals as goal

pub returns-then-bits-eq0 : goal.returns-then-bits-eq0
returns-then-bits-eq0 c = (search high_sizes, search high_most)

pub returns : goal.returns
returns c = (search groups_sizes, search groups_most)
