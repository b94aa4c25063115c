-- `has_fraction` meets its promise.
use Rattle.packet.specs.Parts.{has_fraction}
use Rattle.packet.proofs.header.has_fraction.Goals as goal

pub returns : goal.returns
unfolding has_fraction
returns c = rw c.tsf_of.ensures
