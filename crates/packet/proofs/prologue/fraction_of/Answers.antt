-- `fraction_of` meets its promise: the two words lie inside (`room`).
use Rattle.words.proofs.Kit.{arith}
use Rattle.packet.specs.Parts.{has_fraction, fraction_at, fraction_of}
use Rattle.packet.proofs.RoomLaws.{room, when_inside}
use Rattle.packet.proofs.prologue.fraction_of.Goals.{Start}
use Rattle.packet.proofs.prologue.fraction_of.Goals as goal

pub word_if-high-requires : goal.word_if-high-requires
word_if-high-requires c =
    let p = c.requires in
    rw (c.fraction_at-at.ensures.0, c.has_fraction-present.ensures)
    (λ there. omega (arith, when_inside (has_fraction c.args.w) (fraction_at c.args.w) 2 _ (room _ _ p.0 p.1).fraction there))

pub word_if-low-requires : goal.word_if-low-requires
word_if-low-requires c =
    let p = c.requires in
    rw (c.fraction_at-at.ensures.0, c.has_fraction-present.ensures)
    (λ there. omega (arith, when_inside (has_fraction c.args.w) (fraction_at c.args.w) 2 _ (room _ _ p.0 p.1).fraction there))

pub returns : goal.returns
unfolding fraction_of
returns c =
    rw (← c.fraction_at-at.ensures.0, ← c.has_fraction-present.ensures, ← c.word_if-high.ensures, ← c.word_if-low.ensures) c.high_first.ensures
