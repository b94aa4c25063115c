-- `fill` meets its promise. The invariant `Holding` says that the part of the bits above this one is filled; its laws carry the turn that takes a field and the
-- one that passes it over.
use Rattle.words.proofs.Kit.{◌∙◌, rules}
use Rattle.record.proofs.HoldLaws.{along_few, along_fits}
use Rattle.record.proofs.HoldLaws.{Holding, holding_start, holding_slot, holding_field, holding_fits, holding_taken, holding_passed, holding_end}
use Rattle.record.proofs.inner.held.fill.Goals.{then-bits-bit-eq1, else-bits-bit-eq1}
use Rattle.record.proofs.inner.held.fill.Goals as goal

pub loop-bit-init : goal.loop-bit-init
loop-bit-init c = search (holding_start, c.requires.4)

pub copy_field-requires : goal.copy_field-requires
copy_field-requires c = (search holding_slot, search holding_field, search along_few)

pub overflow_add-from : goal.overflow_add-from
overflow_add-from c = search holding_fits

pub overflow_add-slot : goal.overflow_add-slot
overflow_add-slot c = search along_fits

pub loop-bit-preserved : goal.loop-bit-preserved
loop-bit-preserved c =
    let p = c.loop-bit.invariant in
    let more = c.loop-bit-test.true in
    let en = c.field_size-n.ensures.0 in
    elim c.if-bits-bit-eq1.branch [
      | then-bits-bit-eq1 w ↦ holding_taken p more _ en w.if-bits-bit-eq1.true _ _ (w.slots-is ∙ w.copy_field.ensures) w.from-is
      | else-bits-bit-eq1 w ↦ holding_passed p more _ en w.if-bits-bit-eq1.false _ _ w.slots-is w.from-is
    ]

pub returns : goal.returns
returns c = holding_end c.loop-bit.invariant c.loop-bit-test.false
