-- `rows_of` meets its promise: the columns are those of the readings as far as they are shown (`shown_to`), and the place among the slots is that of the
-- next bit.
use Rattle.words.proofs.Kit.{◌≡◌, ◌+◌, ◌-◌, ◌*◌, ◌≤◌, ◌<◌, arith, rules}
use mir.Facts.{to_z-of_z}
use mir.Syntax.{w64}
use borrow.Author.Rules.{sfits_of}
use Rattle.record.specs.Held.{slot_at}
use Rattle.table.specs.Layout.{record_at}
use Rattle.panel.proofs.AllReadingLaws.{slot_along_fits, slot_along_next}
use Rattle.vrt49.specs.Readings.{readings_values}
use Rattle.vrt49.proofs.ColumnLaws.{shown_to, columns_turn}
use Rattle.vrt49.proofs.readings.rows_of.Goals as goal

pub loop-i-init : goal.loop-i-init
loop-i-init c =
    (c.requires.4, c.requires.3)

pub overflow_add-next : goal.overflow_add-next
overflow_add-next c =
    let inside : c.loop-i.i < 21 = omega arith in
    search (slot_along_fits, inside)

pub loop-i-preserved : goal.loop-i-preserved
loop-i-preserved c =
    let inside : c.loop-i.i < 21 = omega arith in (
      columns_turn (record_at c.args.stream c.args.table.now) c.loop-i.i _ _ _ _ _ c.show_at.result
          c.numbers_of-v.result _ inside c.loop-i.invariant.0 c.show_at.ensures c.numbers_of-v.ensures
          (to_z-of_z {w = w64} (search rules)),
      search (slot_along_next, inside),
    )

pub returns : goal.returns
returns c =
    let all : c.loop-i.i ≡ 7 * (c.args.part + 1) = omega arith in
    rw (← all) (c.loop-i.invariant.1, c.loop-i.invariant.0)
