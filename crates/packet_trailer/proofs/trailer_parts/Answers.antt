-- `trailer_parts` meets its promise: the same bits.
use mathlib.Core.Path.{refl}
use Rattle.packet_trailer.specs.Trailer.{trailer_of}
use Rattle.packet_trailer.proofs.trailer_parts.Goals as goal

pub returns : goal.returns
unfolding trailer_of
returns c = refl
