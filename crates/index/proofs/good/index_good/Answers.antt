-- `index_good` meets its promise: each return is a row of the definition.
use Rattle.words.proofs.Kit.{rules}
use Rattle.index.proofs.GoodLaws.{index_short, index_other, index_many, index_far, index_all}
use Rattle.index.proofs.good.index_good.Goals as goal

pub returns-then-index-lt-CONTENTS_WORDS : goal.returns-then-index-lt-CONTENTS_WORDS
returns-then-index-lt-CONTENTS_WORDS c = search index_short

pub returns-then-n-packets : goal.returns-then-n-packets
returns-then-n-packets c = search index_other

pub returns-then-n-gt-MOST_ENTRIES : goal.returns-then-n-gt-MOST_ENTRIES
returns-then-n-gt-MOST_ENTRIES c = search index_many

pub returns-then-most_place-place_reached : goal.returns-then-most_place-place_reached
returns-then-most_place-place_reached c = search index_far

pub returns : goal.returns
returns c = search index_all
