-- `squeeze_between` meets its promise. The held words of the bits above this one are laid (`Squeezing`); its laws carry the turn that lays a slot and the one
-- that passes it over.
use Rattle.words.proofs.Kit.{◌∙◌, rules}
use Rattle.words.proofs.LaidLaws.{laid_length}
use Rattle.record.proofs.HoldLaws.{along_few, along_fits}
use Rattle.page.proofs.SqueezeLaws.{Squeezing, squeezing_start, squeezing_slot, squeezing_room, squeezing_fits, squeezing_taken, squeezing_passed}
use Rattle.page.proofs.SqueezeLaws.{squeezing_end}
use Rattle.page.proofs.bodies.squeeze_between.Given as goal

abbrev pub invariant-loop-bit : goal.invariant-loop-bit
invariant-loop-bit l = Squeezing l.first l.past l.held l.at l.slots l.initial.page l.page l.bit l.slot l.to

abbrev pub decreases-loop-bit : goal.decreases-loop-bit
decreases-loop-bit l = l.bit
