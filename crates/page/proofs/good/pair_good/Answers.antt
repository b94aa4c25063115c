-- `pair_good` meets its promise: the tests are those of the definition.
use Rattle.words.proofs.Kit.{rules}
use Rattle.page.proofs.GoodLaws.{pair_elsewhere, pair_outside, pair_inside}
use Rattle.page.proofs.good.pair_good.Goals as goal

pub returns-then-offset_in-at : goal.returns-then-offset_in-at
returns-then-offset_in-at c = search pair_elsewhere

pub returns-then-at-length : goal.returns-then-at-length
returns-then-at-length c = search pair_inside

pub returns-else-at-length : goal.returns-else-at-length
returns-else-at-length c = search pair_outside
