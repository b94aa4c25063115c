-- `grow_on` meets its promise: what ends the recording is refused, and else the packet is counted.
use Rattle.words.proofs.Kit.{rules}
use Rattle.index_grow.proofs.PacketLaws.{next_small}
use Rattle.index_grow.proofs.GrowLaws.{on_unread, on_taken}
use Rattle.index_grow.proofs.packets.grow_on.Goals as goal

pub returns-in_default : goal.returns-in_default
returns-in_default c = search on_unread

pub count_packet-requires : goal.count_packet-requires
count_packet-requires c = search (rules, next_small)

pub returns : goal.returns
returns c = search on_taken
