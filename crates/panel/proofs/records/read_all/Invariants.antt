-- `read_all` meets its promise: what the loop has passed is what the record shows (`Showing`), and the place among the slots is that of the next bit.
use Rattle.words.proofs.Kit.{◌≡◌, ◌-◌, refl, sym, rules}
use Rattle.record.specs.Held.{slot_at}
use Rattle.record.proofs.SlotLaws.{slot_first}
use Rattle.panel.proofs.AllReadingLaws.{slot_along_fits, slot_along_next, Showing, showing_none, showing_more, showing_all}
use Rattle.panel.proofs.records.read_all.Given as goal

abbrev pub invariant-loop-i : goal.invariant-loop-i
invariant-loop-i l = Showing l.rec l.i l.dials × (l.slot ≡ slot_at (30 - l.i))
