-- `vrt49_check_body` meets its promise: 0 where nothing is refused, and else the number.
use Rattle.words.proofs.Kit.{refl}
use Rattle.vrt49.specs.Answers.{plain}
use Rattle.vrt49.proofs.AnswerLaws.{tells_number, tells_answer}
use Rattle.vrt49.proofs.packets.vrt49_check_body.Goals as goal

pub returns-in-Ok : goal.returns-in-Ok
returns-in-Ok c = tells_answer plain _ _ _ _ c.in-Ok.ensures refl

pub returns-in-Err : goal.returns-in-Err
returns-in-Err c = search (tells_number, c.in-Err.ensures)
