-- `vrt49_unpack` meets its promise: the number of the answer, and the buffers that `unpack` leaves.
use Rattle.words.proofs.Kit.{sym, refl}
use Rattle.words.specs.Listed.{on_paper}
use Rattle.vrt49.proofs.AnswerLaws.{left_number}
use Rattle.vrt49.proofs.payloads.vrt49_unpack.Goals as goal

pub returns-in-Err : goal.returns-in-Err
returns-in-Err c = left_number on_paper _ _ _ _ _ c.in-Err.ensures (sym c.from.ensures)

pub returns-in-Ok : goal.returns-in-Ok
returns-in-Ok c = left_number on_paper _ _ _ _ _ c.in-Ok.ensures refl
