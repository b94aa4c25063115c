-- `read_survey` meets its promise: FIELD is of a packet whose header and size are right, and the place is that of the number.
use Rattle.packet.proofs.ToldLaws.{survey_fits, survey_not_given, survey_given}
use Rattle.packet.proofs.read_survey.Goals as goal

pub returns-in-Ok : goal.returns-in-Ok
returns-in-Ok c = survey_given _ _ c.in-Ok.ensures

pub refusal_of-requires : goal.refusal_of-requires
refusal_of-requires c = survey_fits _ _ c.in-Err.ensures

pub returns-in-Err : goal.returns-in-Err
returns-in-Err c = rw c.refusal_of.ensures (survey_not_given _ _ c.in-Err.ensures)
