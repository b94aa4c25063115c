-- `pairs_good` meets its promise. While the pairs passed are right, the next body begins where the lengths say (`Paired`); its laws carry the turn.
use Rattle.words.proofs.Kit.{◌-◌, rules}
use Rattle.page.proofs.GoodLaws.{Paired, paired_start, paired_fails, paired_turn, paired_end}
use Rattle.page.proofs.good.pairs_good.Goals as goal

pub loop-s-init : goal.loop-s-init
loop-s-init c = search paired_start

pub returns-then-not-pair_good : goal.returns-then-not-pair_good
returns-then-not-pair_good c = search paired_fails

pub loop-s-preserved : goal.loop-s-preserved
loop-s-preserved c = search paired_turn

pub returns : goal.returns
returns c = search paired_end
