-- `free_good` meets its promise: a field from bit 14 down has no rule, so held it is good.
use Rattle.words.proofs.Kit.{arith, rules}
use Rattle.record.proofs.SlotLaws.{slotted_high}
use Rattle.record.proofs.GoodLaws.{slot_end, slot_fits, slot_bytes, slot_few, slot_free, slot_zeroed}
use Rattle.record.proofs.inner.good.free_good.Goals as goal

pub overflow_add-end : goal.overflow_add-end
overflow_add-end c = search slot_fits

pub overflow_shr-held : goal.overflow_shr-held
overflow_shr-held c = omega (arith, slotted_high)

pub offset_bounds-rec-at : goal.offset_bounds-rec-at
offset_bounds-rec-at c = search slot_bytes

pub slice_bounds-slot_zero-end : goal.slice_bounds-slot_zero-end
slice_bounds-slot_zero-end c = search slot_end

pub slot_zero-requires : goal.slot_zero-requires
slot_zero-requires c = search slot_few

pub returns-then-held-bit-eq1 : goal.returns-then-held-bit-eq1
returns-then-held-bit-eq1 c = search slot_free

pub returns-else-held-bit-eq1 : goal.returns-else-held-bit-eq1
returns-else-held-bit-eq1 c = search slot_zeroed
