-- `read_all` meets its promise: what the loop has passed is what the record shows (`Showing`), and the place among the slots is that of the next bit.
use Rattle.words.proofs.Kit.{◌≡◌, ◌-◌, refl, sym, rules}
use Rattle.record.specs.Held.{slot_at}
use Rattle.record.proofs.SlotLaws.{slot_first}
use Rattle.panel.proofs.AllReadingLaws.{slot_along_fits, slot_along_next, Showing, showing_none, showing_more, showing_all}
use Rattle.panel.proofs.records.read_all.Goals as goal

pub loop-i-init : goal.loop-i-init
loop-i-init c = (showing_none _ _ refl, sym slot_first)

pub overflow_add-slot : goal.overflow_add-slot
overflow_add-slot c = search slot_along_fits

pub loop-i-preserved : goal.loop-i-preserved
loop-i-preserved c = (search showing_more, search slot_along_next)

pub returns : goal.returns
returns c = search showing_all
