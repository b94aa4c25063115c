-- `gather` meets its promise. The identifiers of the bodies passed stand in the list (`Gathering`); its laws carry the turn.
use Rattle.words.proofs.Kit.{◌-◌, rules}
use Rattle.page.proofs.GoodLaws.{Gathering, gathering_start, gathering_turn, gathering_end}
use Rattle.page.proofs.good.gather.Given as goal

abbrev pub invariant-loop-s : goal.invariant-loop-s
invariant-loop-s l = Gathering l.page l.initial.ids l.ids l.n l.s
