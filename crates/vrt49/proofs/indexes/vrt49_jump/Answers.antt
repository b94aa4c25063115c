-- `vrt49_jump` meets its promise: what the jump answers and leaves.
use Rattle.words.proofs.Kit.{rules}
use Rattle.vrt49.proofs.AnswerLaws.{err_beside, ok_beside}
use Rattle.vrt49.proofs.indexes.vrt49_jump.Goals as goal

pub returns-in-Err : goal.returns-in-Err
returns-in-Err c = search (rules, err_beside, c.in-Err.ensures)

pub returns-in-Ok : goal.returns-in-Ok
returns-in-Ok c = search (rules, ok_beside, c.in-Ok.ensures)
