-- `entries_good` meets its promise. While the entries passed are right, the next page begins where the lengths say (`Listed`); its laws carry the turn.
use Rattle.words.proofs.Kit.{◌-◌, rules}
use Rattle.index.proofs.GoodLaws.{Listed, listed_start, listed_fails, listed_turn, listed_end}
use Rattle.index.proofs.good.entries_good.Goals as goal

pub loop-j-init : goal.loop-j-init
loop-j-init c = search listed_start

pub returns-then-not-entry_good : goal.returns-then-not-entry_good
returns-then-not-entry_good c = search listed_fails

pub loop-j-preserved : goal.loop-j-preserved
loop-j-preserved c = search listed_turn

pub returns : goal.returns
returns c = search listed_end
