-- `take` meets its promise: `took` says what one shift of the bits that `refill` counts gives.
use Rattle.bitstream.proofs.ReadLaws.{took}
use Rattle.bitstream.proofs.inner.accumulator.Accumulator.take.Goals as goal

pub returns : goal.returns
returns c = search took
