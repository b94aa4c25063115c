-- `high_known` meets its promise: both parts of the word are asked by one remainder (`high_known_lem`).
use Rattle.packet_survey.proofs.ClassLaws.{high_known_lem}
use Rattle.packet_survey.proofs.inner.Class.high_known.Goals as goal

pub returns : goal.returns
returns c = search high_known_lem
