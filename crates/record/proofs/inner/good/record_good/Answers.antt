-- `record_good` meets its promise: first words that are not good end it, and else the slots answer.
use Rattle.words.proofs.Kit.{not-true, not-false, rules}
use Rattle.record.proofs.GoodLaws.{good_head_ill, good_slots}
use Rattle.record.proofs.inner.good.record_good.Goals as goal

pub returns-then-not-head_good : goal.returns-then-not-head_good
returns-then-not-head_good c = search (good_head_ill, not-true)

pub returns : goal.returns
returns c = search (good_slots, not-false)
