-- `read` meets its promise: FIELD is of a packet whose header and size are right, and the place is that of the number.
use Rattle.packet.proofs.ToldLaws.{read_fits, read_refused, read_given}
use Rattle.packet.proofs.read.Goals as goal

pub returns-in-Ok : goal.returns-in-Ok
returns-in-Ok c = read_given _ _ c.in-Ok.ensures

pub refusal_of-requires : goal.refusal_of-requires
refusal_of-requires c = read_fits _ _ c.in-Err.ensures

pub returns-in-Err : goal.returns-in-Err
returns-in-Err c = rw c.refusal_of.ensures (read_refused _ _ c.in-Err.ensures)
