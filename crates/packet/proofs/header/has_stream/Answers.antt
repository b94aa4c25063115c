-- `has_stream` meets its promise: the bits of the constant are the list of types, by a test that computes once over all types.
use Rattle.words.proofs.Kit.{arith}
use native.Mathlib.Nat.{mod-lt}
use Rattle.packet.specs.Header.{type_of}
use Rattle.packet.specs.Parts.{streamed}
use Rattle.packet.proofs.RoomLaws.{streamed_bit}
use Rattle.packet.proofs.header.has_stream.Goals as goal

pub returns : goal.returns
unfolding streamed
returns c = rw c.type_of.ensures (streamed_bit (type_of c.args.w) (mod-lt _ (omega arith)))
