-- `changed_fields` meets its promise: the bits passed are marked, and the place among the slots is the end of the next bit's.
use Rattle.words.proofs.Kit.{◌≡◌, ◌-◌, ◌≤◌, sym, rules}
use Rattle.words.specs.Word.{marked}
use Rattle.record.specs.Held.{slot_at}
use Rattle.record.proofs.SlotLaws.{slot_last}
use Rattle.panel_streams.specs.Changed.{differs}
use Rattle.panel_streams.proofs.ChangedLaws.{marking_start, marking_small, marking_turn, marking_end, slot_back_inside, slot_back, slot_back_turn}
use Rattle.panel_streams.proofs.changes.changed_fields.Given as goal

abbrev pub invariant-loop-bit : goal.invariant-loop-bit
invariant-loop-bit l = (10 ≤ l.bit) × (l.bit ≤ 31) × (l.word ≡ marked l.bit (differs l.one l.other)) × (l.slot ≡ slot_at (l.bit - 1))
