-- `body_end` meets its promise: the prologue and the trailer lie inside the size (`room`).
use Rattle.words.proofs.Kit.{arith}
use native.Mathlib.Nat.{le_refl}
use Rattle.packet.specs.Parts.{body_length}
use Rattle.packet.proofs.RoomLaws.{room}
use Rattle.packet.proofs.prologue.body_end.Goals as goal

pub overflow_sub-result : goal.overflow_sub-result
overflow_sub-result c =
    let s = c in
    rw (c.when_so.ensures.0, c.has_trailer.ensures, s.size_of.ensures.0) (omega (arith, (room _ _ s.requires (le_refl _)).around))

pub returns : goal.returns
unfolding body_length
returns c =
    let s = c in
    rw (c.when_so.ensures.0, c.has_trailer.ensures, s.size_of.ensures.0) (omega (arith, (room _ _ s.requires (le_refl _)).around))
