-- `vrt49_grow` meets its promise: what growing answers and leaves.
use Rattle.words.proofs.Kit.{sym}
use Rattle.words.proofs.MeetLaws.{said_refused}
use Rattle.vrt49.specs.Indexes.{taken_values}
use Rattle.vrt49.proofs.AnswerLaws.{err_beside_where, ok_beside_where}
use Rattle.vrt49.proofs.SmallLaws.{taken_small}
use Rattle.vrt49.proofs.NumberLaws.{grow_fitting}
use Rattle.vrt49.proofs.indexes.vrt49_grow.Goals as goal

pub number_for-requires : goal.number_for-requires
number_for-requires c = let m = c.in-Err.ensures in (grow_fitting _ _ _ _ (said_refused _ _ (sym m.answer))).fits

pub taken_words-requires : goal.taken_words-requires
taken_words-requires c = taken_small _ _ _ _ _ c.in-Ok.ensures

pub returns-in-Err : goal.returns-in-Err
returns-in-Err c = err_beside_where taken_values _ _ _ _ _ _ c.in-Err.ensures c.number_for.ensures

pub returns-in-Ok : goal.returns-in-Ok
returns-in-Ok c = ok_beside_where taken_values _ _ _ _ _ _ c.in-Ok.ensures c.taken_words.ensures
