-- `head_good` meets its promise: a choice over 1 ends it, so does a held indicator that is not good, and else the counts answer.
use Rattle.record.proofs.GoodLaws.{head_chosen, head_ill, head_counts}
use Rattle.words.proofs.Kit.{arith, rules}
use Rattle.record.proofs.inner.good.head_good.Goals as goal

pub returns-then-rec-gt1 : goal.returns-then-rec-gt1
returns-then-rec-gt1 c = head_chosen _ (omega arith)

pub returns-then-not-held_good : goal.returns-then-not-held_good
returns-then-not-held_good c = search head_ill

pub returns : goal.returns
returns c = search head_counts
