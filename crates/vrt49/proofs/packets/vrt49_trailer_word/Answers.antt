-- `vrt49_trailer_word` meets its promise: the word, or VALUE.
use Rattle.vrt49.proofs.AnswerLaws.{tells_number, tells_answer}
use Rattle.vrt49.proofs.packets.vrt49_trailer_word.Goals as goal

pub returns-in-Err : goal.returns-in-Err
returns-in-Err c = search (tells_number, c.in-Err.ensures)

pub returns-in-Ok : goal.returns-in-Ok
returns-in-Ok c = search (tells_answer, c.in-Ok.ensures)
