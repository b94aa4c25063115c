-- `make_next` meets its promise: each return is a row of what an entry may lack.
use Rattle.words.proofs.Kit.{rules}
use Rattle.index_grow.proofs.ReadyLaws.{ready_whole, ready_inside, ready_behind}
use Rattle.index_grow.proofs.EntryLaws.{made_many, made_far, made_asked}
use Rattle.index_grow.proofs.boundary.make_next.Goals as goal

pub entries_in-j-requires : goal.entries_in-j-requires
entries_in-j-requires c = search ready_whole

pub returns-then-j-ge-MOST_ENTRIES : goal.returns-then-j-ge-MOST_ENTRIES
returns-then-j-ge-MOST_ENTRIES c = search made_many

pub returns-then-offset-gt4294967295 : goal.returns-then-offset-gt4294967295
returns-then-offset-gt4294967295 c = search made_far

pub make_entry-requires : goal.make_entry-requires
make_entry-requires c = search (rules, ready_inside, ready_behind)

pub returns : goal.returns
returns c = search made_asked
