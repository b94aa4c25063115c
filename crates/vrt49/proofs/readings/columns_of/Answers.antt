-- `columns_of` meets its promise: before the first part no row is there, and after the third all are (`shown_to`).
use Rattle.words.proofs.Kit.{◌≡◌, sym, ◌∙◌, ap, ◌-◌, ◌*◌, arith, rules}
use lib.Ieee.{of_bits}
use Rattle.record.specs.Held.{slot_at}
use Rattle.record.proofs.SlotLaws.{slot_first}
use Rattle.table.specs.Layout.{record_at}
use Rattle.vrt49.specs.Readings.{readings_values}
use Rattle.vrt49.proofs.ColumnLaws.{shown_to, shown_all, columns_none}
use Rattle.vrt49.proofs.readings.columns_of.Goals as goal

pub loop-part-init : goal.loop-part-init
unfolding of_bits
loop-part-init c = (columns_none, sym slot_first)

pub loop-part-preserved : goal.loop-part-preserved
loop-part-preserved c =
    (c.rows_of-slot.ensures.1, c.rows_of-slot.ensures.0)

pub returns : goal.returns
returns c =
    c.loop-part.invariant.0 ∙ ap readings_values (shown_all (record_at c.args.stream c.args.table.now) (7 * c.loop-part.part) (omega arith))
