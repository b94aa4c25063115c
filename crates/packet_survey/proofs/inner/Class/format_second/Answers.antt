-- `format_second` meets its promise: the word's low half is the definition's.
use Rattle.packet_survey.specs.Payload.{format_second}
use Rattle.packet_survey.proofs.inner.Class.format_second.Goals as goal

pub returns : goal.returns
unfolding format_second
returns c = search
