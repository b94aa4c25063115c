-- `squeeze_between` meets its promise. The held words of the bits above this one are laid (`Squeezing`); its laws carry the turn that lays a slot and the one
-- that passes it over.
use Rattle.words.proofs.Kit.{◌∙◌, rules}
use Rattle.words.proofs.LaidLaws.{laid_length}
use Rattle.record.proofs.HoldLaws.{along_few, along_fits}
use Rattle.page.proofs.SqueezeLaws.{Squeezing, squeezing_start, squeezing_slot, squeezing_room, squeezing_fits, squeezing_taken, squeezing_passed}
use Rattle.page.proofs.SqueezeLaws.{squeezing_end}
use Rattle.page.proofs.bodies.squeeze_between.Goals.{then-held-bit-eq1, else-held-bit-eq1}
use Rattle.page.proofs.bodies.squeeze_between.Goals as goal

pub loop-bit-init : goal.loop-bit-init
loop-bit-init c = search squeezing_start

pub copy_field-requires : goal.copy_field-requires
copy_field-requires c = (search squeezing_room, search squeezing_slot, search along_few)

pub overflow_add-to : goal.overflow_add-to
overflow_add-to c = search squeezing_fits

pub overflow_add-slot : goal.overflow_add-slot
overflow_add-slot c = search along_fits

pub loop-bit-preserved : goal.loop-bit-preserved
loop-bit-preserved c =
    let p = c.loop-bit.invariant in
    let more = c.loop-bit-test.true in
    let en = c.field_size-n.ensures.0 in
    elim c.if-held-bit-eq1.branch [
      | then-held-bit-eq1 w ↦ squeezing_taken p more _ en w.if-held-bit-eq1.true c.requires.4 _ _ (w.page-is ∙ w.copy_field.ensures) w.to-is
      | else-held-bit-eq1 w ↦ squeezing_passed p more _ en w.if-held-bit-eq1.false _ _ w.page-is w.to-is
    ]

pub shape_of-page : goal.shape_of-page
shape_of-page c = search laid_length

pub returns : goal.returns
returns c = search squeezing_end
