-- `carried_at` meets its promise: a word is below 2 ^ 32, so the bits that it carries are below 2 ^ c (`carried_below`).
use Rattle.words.proofs.Kit.{refl}
use Rattle.bitstream.specs.Carried.{stream_bits}
use Rattle.bitstream.proofs.CarriedLaws.{carried_below}
use Rattle.bitstream.proofs.inner.accumulator.carried_at.Goals as goal

pub returns : goal.returns
unfolding stream_bits
returns c = (refl, search (carried_below, c.type_inv.payload c.args.at))
