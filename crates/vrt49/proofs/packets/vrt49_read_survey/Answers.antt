-- `vrt49_read_survey` meets its promise: what reading as 49A answers.
use Rattle.words.proofs.Kit.{sym, true}
use Rattle.packet.proofs.ReadLaws.{body_inside, size_small}
use Rattle.vrt49.specs.Packets.{survey_values}
use Rattle.vrt49.proofs.AnswerLaws.{where_refused, where_values}
use Rattle.vrt49.proofs.NumberLaws.{survey_fitting}
use Rattle.vrt49.proofs.SurveyLaws.{survey_packet}
use Rattle.vrt49.proofs.packets.vrt49_read_survey.Goals as goal

pub number_for-requires : goal.number_for-requires
number_for-requires c = (survey_fitting _ _ (sym c.in-Err.ensures)).fits

pub survey_words-requires : goal.survey_words-requires
survey_words-requires c = let e = survey_packet _ _ (sym c.in-Ok.ensures) in (size_small true _ _ e, body_inside true _ _ e)

pub returns-in-Err : goal.returns-in-Err
returns-in-Err c = where_refused survey_values _ _ _ _ (sym c.in-Err.ensures) c.number_for.ensures

pub returns-in-Ok : goal.returns-in-Ok
returns-in-Ok c = where_values survey_values _ _ _ _ (sym c.in-Ok.ensures) c.survey_words.ensures
