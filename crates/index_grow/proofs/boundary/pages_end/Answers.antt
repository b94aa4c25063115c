-- `pages_end` meets its promise: the last page ends where the pages do.
use Rattle.words.proofs.Kit.{rules}
use Rattle.index_grow.proofs.ReadyLaws.{ready_whole, ready_some, ready_below, ready_last}
use Rattle.index_grow.proofs.boundary.pages_end.Goals as goal

pub entries_in-last-requires : goal.entries_in-last-requires
entries_in-last-requires c = search ready_whole

pub overflow_sub-last : goal.overflow_sub-last
overflow_sub-last c = search (rules, ready_some)

pub entry_offset-requires : goal.entry_offset-requires
entry_offset-requires c = search (ready_whole, ready_below)

pub entry_length-requires : goal.entry_length-requires
entry_length-requires c = search (ready_whole, ready_below)

pub returns : goal.returns
returns c = search ready_last
