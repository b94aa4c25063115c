-- `unpack_items` meets its promise. The invariant: k items are taken (`Reading`), and stand in the first k places.
use Rattle.words.proofs.Kit.{◌/◌, ◌^◌}
use Rattle.bitstream.specs.Carried.{packing_field}
use Rattle.bitstream.proofs.FilledLaws.{Fills}
use Rattle.payload_unpack.proofs.ReadingLaws.{Reading}
use Rattle.payload_unpack.proofs.plain.unpack_items.Given as goal

abbrev pub invariant-loop-item : goal.invariant-loop-item
invariant-loop-item l =
    Fills 0 l.n l.item-index (λ j. packing_field l.c l.f l.payload j / 2 ^ l.up) l.initial.item-items l.item-items
    × Reading l.c l.f l.up l.payload l.s l.item-index
