-- `hold_fields` meets its promise: each carried field is put into its slot, and `slots_made` says what the two words then make of the slots.
use Rattle.words.proofs.Kit.{refl, ◌^◌, ◌<◌, arith, get_or}
use Rattle.fields.specs.Layout.{indicator_of}
use Rattle.record.specs.Held.{slot_mask}
use Rattle.record.proofs.AfterLaws.{body_some, masked_within, packet_inside, state_slot_there, slots_made}
use Rattle.std.proofs.Common.{rules}
use Rattle.record.proofs.inner.held.hold_fields.Goals as goal

pub bounds-body-0 : goal.bounds-body-0
bounds-body-0 c = search body_some

pub refill-requires : goal.refill-requires
unfolding slot_mask
refill-requires c =
    let body = c.args.body.now in
    (search rules, masked_within (indicator_of body), packet_inside body c.requires.1)

pub bounds-slots-22-3 : goal.bounds-slots-22-3
unfolding slot_mask
bounds-slots-22-3 c =
    state_slot_there c.args.body.now c.requires.1 c.args.slots.now c.requires.0 _ _ _ refl refl c.refill.ensures _ _

pub returns : goal.returns
unfolding slot_mask
returns c =
    let word_small : get_or c.args.slots.now 22 0 < 2 ^ 32 = search rules in
    slots_made c.args.body.now c.requires.1 c.args.slots.now c.requires.0 _ _ _ refl refl c.refill.ensures _ _ refl
    c.state_after.ensures word_small
