-- `body_length` meets its promise: the difference of the body's end and place.
use Rattle.words.proofs.Kit.{◌≡◌, ◌-◌, ℕ, ◌+◌, ◌^◌, ◌<◌, arith}
use Rattle.packet.specs.Parts.{body_at, body_length}
use Rattle.packet.proofs.RoomLaws.{length_small}
use Rattle.packet.proofs.prologue.body_length.Goals as goal

module _ (w end at : ℕ) (e : end ≡ body_at w + body_length w) (a : at ≡ body_at w) where
  length_is : end - at ≡ body_length w
  length_is = omega arith

  length_fits : end - at < 2 ^ 16
  length_fits = omega (arith, length_small w)

pub returns : goal.returns
returns c = search (length_is, length_fits)
