-- `vrt49_changed` meets its promise: the bits, or the number of the refusal.
use Rattle.vrt49.proofs.AnswerLaws.{tells_number, tells_answer}
use Rattle.vrt49.proofs.streams.vrt49_changed.Goals as goal

pub returns-in-Err : goal.returns-in-Err
returns-in-Err c = search (tells_number, c.in-Err.ensures)

pub returns-in-Ok : goal.returns-in-Ok
returns-in-Ok c = search (tells_answer, c.in-Ok.ensures)
