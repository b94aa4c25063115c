-- `hear_data` meets its promise: the packet is counted.
use Rattle.record.proofs.CountLaws.{data_counted, data_not}
use Rattle.record.proofs.PacketLaws.{last_most, data_adds, data_leaves}
use Rattle.std.proofs.Common.{rules}
use Rattle.record.proofs.inner.after.hear_data.Goals as goal

pub type_order-order-requires : goal.type_order-order-requires
type_order-order-requires c = search data_counted

pub count-requires : goal.count-requires
count-requires c = (search, search, search, search last_most)

pub returns : goal.returns
returns c = (search data_adds, search (data_leaves, data_not))
