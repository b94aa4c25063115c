-- `fill_record` meets its promise: the first words are copied, the slots are lent to `refill`, and `filled_record` says what that leaves.
use Rattle.words.proofs.Kit.{arith, rules}
use Rattle.record.specs.Held.{slot_mask}
use Rattle.record.proofs.AfterLaws.{masked_within}
use Rattle.page.proofs.BodyLaws.{body_some}
use Rattle.page.proofs.PutLaws.{zeroed_length, fields_inside, refill_slots, filled_record}
use Rattle.page.proofs.putting.fill_record.Goals as goal

pub word_at-held-requires : goal.word_at-held-requires
unfolding slot_mask
word_at-held-requires c = search rules

pub copy_part-requires : goal.copy_part-requires
unfolding slot_mask
copy_part-requires c = (omega (arith, zeroed_length), search body_some)

pub slice_bounds-refill-count : goal.slice_bounds-refill-count
unfolding slot_mask
slice_bounds-refill-count c = search rules

pub slice_bounds-refill-start : goal.slice_bounds-refill-start
unfolding slot_mask
slice_bounds-refill-start c = search rules

pub slice_bounds-refill-end : goal.slice_bounds-refill-end
unfolding slot_mask
slice_bounds-refill-end c = omega (arith, zeroed_length)

pub refill-requires : goal.refill-requires
unfolding slot_mask
refill-requires c = search (refill_slots, masked_within, fields_inside)

pub shape_of-rec : goal.shape_of-rec
unfolding slot_mask
shape_of-rec c = search rules

pub returns : goal.returns
unfolding slot_mask
returns c = search filled_record
