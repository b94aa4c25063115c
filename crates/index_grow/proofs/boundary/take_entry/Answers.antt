-- `take_entry` meets its promise: the next entry is made, and the packet counted.
use Rattle.words.proofs.Kit.{rules}
use Rattle.index_grow.proofs.ReadyLaws.{ready_whole, ready_more, ready_further}
use Rattle.index_grow.proofs.EntryLaws.{made_whole, taken_full, taken_made}
use Rattle.index_grow.proofs.boundary.take_entry.Goals as goal

pub packets_taken-n-requires : goal.packets_taken-n-requires
packets_taken-n-requires c = search ready_whole

pub place_reached-requires : goal.place_reached-requires
place_reached-requires c = search ready_whole

pub overflow_add-place : goal.overflow_add-place
overflow_add-place c = search ready_further

pub returns-then-not-make_next : goal.returns-then-not-make_next
returns-then-not-make_next c = search taken_full

pub write_reached-requires : goal.write_reached-requires
write_reached-requires c = (search (made_whole, c.make_next.ensures), search (rules, ready_more))

pub returns : goal.returns
returns c = search taken_made
