-- `rows_of` meets its promise: the columns are those of the readings as far as they are shown (`shown_to`), and the place among the slots is that of the
-- next bit.
use Rattle.words.proofs.Kit.{◌≡◌, ◌+◌, ◌-◌, ◌*◌, ◌≤◌, ◌<◌, arith, rules}
use mir.Facts.{to_z-of_z}
use mir.Syntax.{w64}
use borrow.Author.Rules.{sfits_of}
use Rattle.record.specs.Held.{slot_at}
use Rattle.table.specs.Layout.{record_at}
use Rattle.panel.proofs.AllReadingLaws.{slot_along_fits, slot_along_next}
use Rattle.vrt49.specs.Readings.{readings_values}
use Rattle.vrt49.proofs.ColumnLaws.{shown_to, columns_turn}
use Rattle.vrt49.proofs.readings.rows_of.Given as goal

abbrev pub invariant-loop-i : goal.invariant-loop-i
invariant-loop-i l = ((l.kinds, l.parts, l.hertz, l.first, l.second) ≡ readings_values (shown_to l.i (record_at l.stream l.table))) ×
    (l.next ≡ slot_at (30 - l.i))
