-- The last return of `count_bad`: the whole group, multiplied out in the other order.
use Rattle.payload_format.proofs.GroupLaws.{count_items}
use Rattle.payload_format.proofs.inner.count_bad.Goals as goal

pub returns : goal.returns
returns c = search count_items
