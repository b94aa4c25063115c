-- `unpack_parts` meets its promise. The invariant: k fields are taken (`Reading`), and their parts stand in their places (`Parts`).
use Rattle.payload_unpack.proofs.ReadingLaws.{reading_start, field_can, reading_field, reading_next}
use Rattle.payload_unpack.proofs.BuffersLaws.{parts_none, parts_turn, parts_all}
use Rattle.payload_unpack.proofs.tagged.unpack_parts.Goals as goal

pub loop-k-init : goal.loop-k-init
loop-k-init c = search (parts_none, reading_start)

pub take_field-v-requires : goal.take_field-v-requires
take_field-v-requires c = search field_can

pub loop-k-preserved : goal.loop-k-preserved
loop-k-preserved c = search (parts_turn, reading_field, reading_next)

pub returns : goal.returns
returns c = search parts_all
