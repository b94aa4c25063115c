-- `vrt49_identity` meets its promise: the identifier, the choice and the held indicator, or the number of the refusal.
use Rattle.vrt49.proofs.AnswerLaws.{tells_number, tells_answer}
use Rattle.vrt49.proofs.streams.vrt49_identity.Goals as goal

pub returns-in-Err : goal.returns-in-Err
returns-in-Err c = search (tells_number, c.in-Err.ensures)

pub returns-in-Ok : goal.returns-in-Ok
returns-in-Ok c = search (tells_answer, c.in-Ok.ensures)
