-- `where_of` meets its promise: a number that is not in the list has no place.
use Rattle.packet.proofs.ToldLaws.{where_unlisted}
use Rattle.packet.proofs.places.where_of.Goals as goal

pub returns-in-Err : goal.returns-in-Err
returns-in-Err c = where_unlisted _ _ (λ k. c.in-Err.ensures.1 k.0 k.1)
