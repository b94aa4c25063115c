-- `count_packet` meets its promise: the packets and the place behind them are written.
use Rattle.words.proofs.Kit.{rules}
use Rattle.index_grow.proofs.ReadyLaws.{ready_whole, ready_more, ready_further, counted_is}
use Rattle.index_grow.proofs.packets.count_packet.Goals as goal

pub packets_taken-n-requires : goal.packets_taken-n-requires
packets_taken-n-requires c = search ready_whole

pub place_reached-requires : goal.place_reached-requires
place_reached-requires c = search ready_whole

pub overflow_add-place : goal.overflow_add-place
overflow_add-place c = search ready_further

pub write_reached-requires : goal.write_reached-requires
write_reached-requires c = search (rules, ready_whole, ready_more)

pub returns : goal.returns
returns c = search counted_is
