-- `changed_fields` meets its promise: the bits passed are marked, and the place among the slots is the end of the next bit's.
use Rattle.words.proofs.Kit.{◌≡◌, ◌-◌, ◌≤◌, sym, rules}
use Rattle.words.specs.Word.{marked}
use Rattle.record.specs.Held.{slot_at}
use Rattle.record.proofs.SlotLaws.{slot_last}
use Rattle.panel_streams.specs.Changed.{differs}
use Rattle.panel_streams.proofs.ChangedLaws.{marking_start, marking_small, marking_turn, marking_end, slot_back_inside, slot_back, slot_back_turn}
use Rattle.panel_streams.proofs.changes.changed_fields.Goals as goal

pub loop-bit-init : goal.loop-bit-init
loop-bit-init c = (search rules, search rules, search marking_start, sym slot_last)

pub overflow_sub-slot : goal.overflow_sub-slot
overflow_sub-slot c = search (rules, slot_back_inside)

pub field_differs-requires : goal.field_differs-requires
field_differs-requires c = search (rules, slot_back)

pub mark-word-requires : goal.mark-word-requires
mark-word-requires c = (search rules, search marking_small)

pub loop-bit-preserved : goal.loop-bit-preserved
loop-bit-preserved c =
    let word-marked = marking_turn _ _ _ _ (search) _ _ c.field_differs.ensures c.mark-word.ensures in
    (search rules, search rules, word-marked, search (rules, slot_back_turn))

pub returns : goal.returns
returns c = search marking_end
