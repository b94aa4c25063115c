-- `unpack_items` meets its promise: a turn takes the next item (`reading_item`), and leaves the same of the rest (`reading_next`).
use Rattle.words.proofs.Kit.{◌≤◌, ◌<◌, arith, length, take}
use Rattle.std.proofs.lemmas.List.{length-take}
use Rattle.bitstream.proofs.FilledLaws.{fills_none, fills_turn, fills_all, filled_part}
use Rattle.payload_unpack.proofs.ReadingLaws.{reading_start, item_some, reading_can, reading_item, reading_next}
use Rattle.payload_unpack.proofs.plain.unpack_items.Goals as goal

pub loop-item-init : goal.loop-item-init
loop-item-init c =
    let room : c.args.n ≤ length (take c.args.n c.args.items.now) = omega (arith, length-take c.args.n c.args.items.now, c.requires.0.places) in
    search (fills_none, reading_start, room)

pub take-requires : goal.take-requires
take-requires c =
    let turn : c.loop-item.item-index < c.args.n = omega (arith, length-take c.args.n c.args.items.now) in
    search (reading_can, item_some, turn)

pub loop-item-preserved : goal.loop-item-preserved
loop-item-preserved c =
    let turn : c.loop-item.item-index < c.args.n = omega (arith, length-take c.args.n c.args.items.now) in
    search (fills_turn, reading_item, reading_next, turn)

pub returns : goal.returns
returns c =
    let all : c.args.n ≤ c.loop-item.item-index = omega (arith, length-take c.args.n c.args.items.now, c.requires.0.places) in
    filled_part _ _ _ _ (fills_all c.loop-item.invariant.0 all)
