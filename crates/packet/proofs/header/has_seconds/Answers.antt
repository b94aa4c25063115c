-- `has_seconds` meets its promise.
use Rattle.packet.specs.Parts.{has_seconds}
use Rattle.packet.proofs.header.has_seconds.Goals as goal

pub returns : goal.returns
unfolding has_seconds
returns c = rw c.tsi_of.ensures
