-- `payload_bits` meets its promise: the difference is the definition's.
use Rattle.packet_survey.specs.Payload.{payload_bits}
use Rattle.packet_survey.proofs.inner.Class.payload_bits.Goals as goal

pub returns : goal.returns
unfolding payload_bits
returns c = rw c.pad.ensures.0
