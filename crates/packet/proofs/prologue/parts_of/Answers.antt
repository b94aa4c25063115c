-- `parts_of` meets its promise: each part is what its function answers, and lies inside (`room`).
use Rattle.words.proofs.Kit.{◌≡◌, Bool, true, ℕ, ◌-◌, ◌≤◌, ◌<◌, arith}
use Rattle.packet.specs.Header.{trailed, size_of}
use Rattle.packet.specs.Parts.{has_seconds, seconds_at, required_of, parts_of}
use Rattle.packet.proofs.RoomLaws.{room, when_inside}
use Rattle.packet.proofs.prologue.parts_of.Goals as goal

-- the parts lie inside the n words
module _ (w n : ℕ) (h : required_of w ≤ size_of w) (g : size_of w ≤ n) where
  seconds_there : (t : Bool) (at : ℕ) → t ≡ has_seconds w → at ≡ seconds_at w → t ≡ true → at < n
  seconds_there t at e f there = omega (arith, when_inside (has_seconds w) (seconds_at w) 1 n (room w n h g).seconds (cc))

  module _ (size : ℕ) (f : size ≡ size_of w) where
    size_some : 1 ≤ size
    size_some = omega (arith, (room w n h g).header)

    trailer_there : (t : Bool) → t ≡ trailed w → t ≡ true → size - 1 < n
    trailer_there t e there = omega (arith, when_inside (trailed w) (size_of w - 1) 1 n (room w n h g).trailer (cc))

pub word_if-requires : goal.word_if-requires
word_if-requires c = search seconds_there

pub overflow_sub-size_of : goal.overflow_sub-size_of
overflow_sub-size_of c = search size_some

pub word_if-requires-2 : goal.word_if-requires-2
word_if-requires-2 c = search trailer_there

pub returns : goal.returns
unfolding parts_of
returns c = cc
