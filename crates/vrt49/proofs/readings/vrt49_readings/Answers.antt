-- `vrt49_readings` meets its promise: the columns of the stream's record, or the number of the refusal.
use Rattle.table.proofs.StreamLaws.{checked_few, checked_has}
use Rattle.panel.proofs.AllReadingLaws.{readings_refused, readings_accepted}
use Rattle.vrt49.proofs.AnswerLaws.{tells_number, tells_answer}
use Rattle.vrt49.proofs.readings.vrt49_readings.Goals as goal

pub columns_of-requires : goal.columns_of-requires
columns_of-requires c = search (checked_few, checked_has, c.in-Ok.ensures)

pub returns-in-Err : goal.returns-in-Err
returns-in-Err c = search (tells_number, readings_refused, c.in-Err.ensures)

pub returns-in-Ok : goal.returns-in-Ok
returns-in-Ok c = tells_answer _ _ _ _ _ (readings_accepted _ _ c.in-Ok.ensures) c.columns_of.ensures
