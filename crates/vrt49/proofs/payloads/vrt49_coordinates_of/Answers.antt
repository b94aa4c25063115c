-- `vrt49_coordinates_of` meets its promise: the four coordinates, or the number of the refusal.
use Rattle.words.proofs.Kit.{refl}
use Rattle.vrt49.specs.Payloads.{coordinates_values}
use Rattle.vrt49.proofs.AnswerLaws.{tells_number, tells_answer}
use Rattle.vrt49.proofs.payloads.vrt49_coordinates_of.Goals as goal

pub returns-in-Err : goal.returns-in-Err
returns-in-Err c = tells_number coordinates_values _ _ _ _ c.in-Err.ensures c.from.ensures

pub returns-in-Ok : goal.returns-in-Ok
returns-in-Ok c = tells_answer coordinates_values _ _ _ _ c.in-Ok.ensures refl
