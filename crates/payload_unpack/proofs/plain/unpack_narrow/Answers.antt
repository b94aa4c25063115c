-- `unpack_narrow` meets its promise: the fields before the last word are read by their places (`item_here`), and then those in it.
use Rattle.words.proofs.Kit.{◌≡◌, ◌*◌, ◌-◌, ◌/◌, ◌^◌, ◌∙◌, refl, rules}
use Rattle.bitstream.specs.Stream.{span}
use Rattle.bitstream.specs.Carried.{stream_bits}
use Rattle.bitstream.proofs.FilledLaws.{filled_twice}
use Rattle.payload_unpack.proofs.WindowLaws.{item_here, before_most}
use Rattle.payload_unpack.proofs.plain.unpack_narrow.Goals as goal

pub returns : goal.returns
returns c =
    let p = c.args.p in
    let ws = c.args.payload.now in
    filled_twice _ _ _ _ _ _ (before_most c.requires _ c.fields_before_last-before.ensures) c.requires.given.places
    (c.write_items.ensures _
    (λ k x from turn given.
    let e : x ≡ span 32 (stream_bits 32 ws) (k * p.field) 32 / 2 ^ (32 - p.item) = search rules in
    e ∙ item_here c.requires k _ refl))
    c.unpack_last.ensures
