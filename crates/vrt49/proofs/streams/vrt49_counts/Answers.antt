-- `vrt49_counts` meets its promise: the count of the type, four zeros where it has not started, or the number of the refusal.
use Rattle.vrt49.specs.Streams.{count_values}
use Rattle.vrt49.proofs.AnswerLaws.{tells_number, tells_answer}
use Rattle.vrt49.proofs.streams.vrt49_counts.Goals as goal

pub returns-in-Err : goal.returns-in-Err
returns-in-Err c = search (tells_number, c.in-Err.ensures)

pub returns-in-Ok-Some : goal.returns-in-Ok-Some
returns-in-Ok-Some c = tells_answer count_values _ _ _ _ c.in-Ok-Some.ensures (rw c.in-Ok-Some.field-0-is)

pub returns-in-Ok-None : goal.returns-in-Ok-None
returns-in-Ok-None c = tells_answer count_values _ _ _ _ c.in-Ok-None.ensures (rw c.in-Ok-None.field-0-is)
