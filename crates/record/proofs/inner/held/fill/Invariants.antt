-- `fill` meets its promise. The invariant `Holding` says that the part of the bits above this one is filled; its laws carry the turn that takes a field and the
-- one that passes it over.
use Rattle.words.proofs.Kit.{◌∙◌, rules}
use Rattle.record.proofs.HoldLaws.{along_few, along_fits}
use Rattle.record.proofs.HoldLaws.{Holding, holding_start, holding_slot, holding_field, holding_fits, holding_taken, holding_passed, holding_end}
use Rattle.record.proofs.inner.held.fill.Given as goal

abbrev pub invariant-loop-bit : goal.invariant-loop-bit
invariant-loop-bit l = Holding l.first l.past l.bits l.at l.source l.initial.slots l.slots l.bit l.slot l.from

abbrev pub decreases-loop-bit : goal.decreases-loop-bit
decreases-loop-bit l = l.bit
