-- `broken_at` meets its promise: the body lies inside, and is what is lent.
use Rattle.packet.proofs.RoomLaws.{body_ends}
use Rattle.packet.proofs.ToldLaws.{broken_lent}
use Rattle.packet.proofs.places.broken_at.Goals as goal

pub slice_bounds-broken-end : goal.slice_bounds-broken-end
slice_bounds-broken-end c = search body_ends

pub returns : goal.returns
returns c = search broken_lent
