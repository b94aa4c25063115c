-- `hold` meets its promise: the slots are lent to `hold_fields`, and `slots_lent` says what that leaves.
use Rattle.record.specs.Held.{slot_mask, held_mask}
use Rattle.record.proofs.AfterLaws.{body_some, slots_long, slots_lent}
use Rattle.std.proofs.Common.{rules}
use Rattle.record.proofs.inner.held.hold.Goals as goal

pub bounds-body-0 : goal.bounds-body-0
bounds-body-0 c = search body_some

pub hold_fields-requires : goal.hold_fields-requires
hold_fields-requires c = (search slots_long, search)

pub returns : goal.returns
unfolding slot_mask held_mask
returns c = search slots_lent
