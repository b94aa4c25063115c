-- `unpack_wide` meets its promise: the fields before the last are read by their places (`item_wide`), and then the last (`items_wide`).
use Rattle.words.proofs.Kit.{◌≡◌, ◌*◌, ◌-◌, ◌/◌, ◌^◌, ◌∙◌, refl, rules}
use Rattle.bitstream.specs.Stream.{span}
use Rattle.bitstream.specs.Carried.{stream_bits}
use Rattle.payload_unpack.proofs.WindowLaws.{item_wide, items_wide}
use Rattle.payload_unpack.proofs.plain.unpack_wide.Goals as goal

pub returns : goal.returns
returns c =
    let p = c.args.p in
    let ws = c.args.payload.now in
    items_wide c.requires.0 c.requires.1 c.requires.2 c.requires.0.places
    (c.write_items.ensures _
    (λ k x from turn given.
    let e : x ≡ span 32 (stream_bits 32 ws) (k * p.field) 64 / 2 ^ (64 - p.item) = search rules in
    e ∙ item_wide c.requires.0 c.requires.1 k _ refl))
    c.bits_wide_last.ensures
