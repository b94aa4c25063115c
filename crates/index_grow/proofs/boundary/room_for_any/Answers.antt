-- `room_for_any` meets its promise: each return is a test of `room_for_any`.
use Rattle.words.proofs.Kit.{rules}
use Rattle.index_grow.proofs.ReadyLaws.{ready_whole}
use Rattle.index_grow.proofs.AnyLaws.{any_many, any_far, any_is}
use Rattle.index_grow.proofs.boundary.room_for_any.Goals as goal

pub entries_in-requires : goal.entries_in-requires
entries_in-requires c = search ready_whole

pub returns-then-entries_in-ge-MOST_ENTRIES : goal.returns-then-entries_in-ge-MOST_ENTRIES
returns-then-entries_in-ge-MOST_ENTRIES c = search any_many

pub returns-then-end-gt4294967295 : goal.returns-then-end-gt4294967295
returns-then-end-gt4294967295 c = search any_far

pub returns : goal.returns
returns c = search any_is
