-- `slots_good` meets its promise: the parts have all slots (`good_parts`).
use Rattle.words.proofs.Kit.{rules}
use Rattle.record.proofs.GoodLaws.{high_ill, next_ill, middle_ill, good_parts}
use Rattle.record.proofs.inner.good.slots_good.Goals as goal

pub returns-then-not-high_good : goal.returns-then-not-high_good
returns-then-not-high_good c = search high_ill

pub returns-then-not-high_good-2 : goal.returns-then-not-high_good-2
returns-then-not-high_good-2 c = search next_ill

pub returns-then-not-middle_good : goal.returns-then-not-middle_good
returns-then-not-middle_good c = search middle_ill

pub returns : goal.returns
returns c = search good_parts
