-- `unpack_parts_narrow` meets its promise: the fields before the last word are read by their places (`field_here`), and then those in it.
use Rattle.words.proofs.Kit.{◌≡◌, ◌*◌, ◌-◌, ◌/◌, ◌^◌, ◌∙◌, refl, rules}
use Rattle.bitstream.specs.Stream.{span}
use Rattle.bitstream.specs.Carried.{stream_bits}
use Rattle.payload_unpack.proofs.WindowLaws.{field_here, before_most}
use Rattle.payload_unpack.proofs.BuffersLaws.{parts_twice}
use Rattle.payload_unpack.proofs.tagged.unpack_parts_narrow.Goals as goal

pub returns : goal.returns
returns c =
    let p = c.args.p in
    let ws = c.args.payload.now in
    parts_twice _ _ _ _ _ _ _ _ _ _ _ _ _ (before_most c.requires.0 _ c.fields_before_last-before.ensures)
    c.requires.0.given.places c.requires.1 c.requires.2
    (c.write_parts.ensures _
    (λ k v from turn given.
    let e : v ≡ span 32 (stream_bits 32 ws) (k * p.field) 32 / 2 ^ (32 - p.field) = search rules in
    e ∙ field_here c.requires.0 k _ refl))
    c.unpack_parts_last.ensures
