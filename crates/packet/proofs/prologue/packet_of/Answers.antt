-- `packet_of` meets its promise: the parts, the size, and the body's place and length.
use Rattle.words.proofs.Kit.{◌≡◌, ◌-◌, arith}
use Rattle.packet.specs.Parts.{body_length, packet_of}
use Rattle.packet.proofs.prologue.packet_of.Goals as goal

pub returns : goal.returns
unfolding packet_of
returns c =
    let long : c.body_end-end.result - c.body_at-place.result ≡ body_length c.args.w = omega
    (arith, c.body_end-end.ensures, c.body_at-place.ensures.0) in
    cc
