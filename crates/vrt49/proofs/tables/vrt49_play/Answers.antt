-- `vrt49_play` meets its promise: what play answers and leaves.
use Rattle.words.proofs.Kit.{sym}
use Rattle.words.proofs.MeetLaws.{said_refused}
use Rattle.vrt49.specs.Tables.{heard_values}
use Rattle.vrt49.proofs.AnswerLaws.{err_beside_where, ok_beside_where}
use Rattle.vrt49.proofs.SmallLaws.{heard_small}
use Rattle.vrt49.proofs.NumberLaws.{play_fitting}
use Rattle.vrt49.proofs.tables.vrt49_play.Goals as goal

pub number_for-requires : goal.number_for-requires
number_for-requires c = let m = c.in-Err.ensures in (play_fitting _ _ _ (said_refused _ _ (sym m.answer))).fits

pub heard_words-requires : goal.heard_words-requires
heard_words-requires c = heard_small _ _ _ _ c.in-Ok.ensures

pub returns-in-Err : goal.returns-in-Err
returns-in-Err c = err_beside_where heard_values _ _ _ _ _ _ c.in-Err.ensures c.number_for.ensures

pub returns-in-Ok : goal.returns-in-Ok
returns-in-Ok c = ok_beside_where heard_values _ _ _ _ _ _ c.in-Ok.ensures c.heard_words.ensures
