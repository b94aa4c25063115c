-- `class_low` meets its promise: the word lies inside (`room`).
use Rattle.words.proofs.Kit.{arith}
use Rattle.packet.specs.Parts.{class_low}
use Rattle.packet.proofs.RoomLaws.{room, when_inside}
use Rattle.packet.proofs.prologue.class_low.Goals as goal

pub word_if-requires : goal.word_if-requires
word_if-requires c =
    let p = c.requires in
    rw (c.class_at.ensures.0, c.has_class.ensures) (λ there. omega (arith, when_inside _ _ _ _ (room _ _ p.0 p.1).class there))

pub returns : goal.returns
unfolding class_low
returns c = rw (← c.class_at.ensures.0, ← c.has_class.ensures) c.word_if.ensures
