-- `identifier_of` meets its promise: the identifier lies inside (`room`).
use Rattle.words.proofs.Kit.{arith}
use Rattle.packet.proofs.RoomLaws.{room, when_inside}
use Rattle.packet.proofs.prologue.identifier_of.Goals as goal

pub word_if-requires : goal.word_if-requires
word_if-requires c =
    let p = c.requires in
    rw c.has_stream.ensures (λ there. omega (arith, when_inside _ _ _ _ (room _ _ p.0 p.1).identifier there))

pub returns : goal.returns
returns c = rw (← c.has_stream.ensures) c.word_if.ensures
