-- `slot_at` meets its promise: the bits above are those of the slots with the others cleared.
use Rattle.record.specs.Held.{slot_mask}
use Rattle.record.proofs.SlotLaws.{slot_counted}
use Rattle.std.proofs.Common.{rules}
use Rattle.record.proofs.inner.held.slot_at.Goals as goal

pub overflow_add-bit : goal.overflow_add-bit
unfolding slot_mask
overflow_add-bit c = search rules

pub overflow_shr-bit : goal.overflow_shr-bit
unfolding slot_mask
overflow_shr-bit c = search rules

pub overflow_add-bit-2 : goal.overflow_add-bit-2
unfolding slot_mask
overflow_add-bit-2 c = search rules

pub overflow_shl-bit : goal.overflow_shl-bit
unfolding slot_mask
overflow_shl-bit c = search rules

pub fixed_words-requires : goal.fixed_words-requires
unfolding slot_mask
fixed_words-requires c = search rules

pub returns : goal.returns
unfolding slot_mask
returns c = (search slot_counted, search rules)
