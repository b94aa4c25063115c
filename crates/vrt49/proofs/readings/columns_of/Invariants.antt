-- `columns_of` meets its promise: before the first part no row is there, and after the third all are (`shown_to`).
use Rattle.words.proofs.Kit.{◌≡◌, sym, ◌∙◌, ap, ◌-◌, ◌*◌, arith, rules}
use lib.Ieee.{of_bits}
use Rattle.record.specs.Held.{slot_at}
use Rattle.record.proofs.SlotLaws.{slot_first}
use Rattle.table.specs.Layout.{record_at}
use Rattle.vrt49.specs.Readings.{readings_values}
use Rattle.vrt49.proofs.ColumnLaws.{shown_to, shown_all, columns_none}
use Rattle.vrt49.proofs.readings.columns_of.Given as goal

abbrev pub invariant-loop-part : goal.invariant-loop-part
invariant-loop-part l = ((l.kinds, l.parts, l.hertz, l.first, l.second) ≡ readings_values (shown_to (7 * l.part) (record_at l.stream l.table))) ×
    (l.slot ≡ slot_at (30 - 7 * l.part))
