-- `gather` meets its promise. The identifiers of the bodies passed stand in the list (`Gathering`); its laws carry the turn.
use Rattle.words.proofs.Kit.{◌-◌, rules}
use Rattle.page.proofs.GoodLaws.{Gathering, gathering_start, gathering_turn, gathering_end}
use Rattle.page.proofs.good.gather.Goals as goal

pub loop-s-init : goal.loop-s-init
loop-s-init c = search gathering_start

pub loop-s-preserved : goal.loop-s-preserved
loop-s-preserved c = search gathering_turn

pub returns : goal.returns
returns c = search gathering_end
