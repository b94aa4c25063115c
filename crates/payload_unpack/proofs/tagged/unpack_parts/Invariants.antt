-- `unpack_parts` meets its promise. The invariant: k fields are taken (`Reading`), and their parts stand in their places (`Parts`).
use Rattle.payload_unpack.proofs.ReadingLaws.{Reading}
use Rattle.payload_unpack.proofs.BuffersLaws.{Parts}
use Rattle.payload_unpack.proofs.tagged.unpack_parts.Given as goal

abbrev pub invariant-loop-k : goal.invariant-loop-k
invariant-loop-k l =
    Parts l.p l.payload 0 l.n l.k l.initial.items l.initial.events l.initial.channels l.items l.events l.channels
    × Reading l.p.carry l.p.field 0 l.payload l.s l.k
