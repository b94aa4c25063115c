-- `grow_to_entry` meets its promise: where there is room for any page, the packet may be played on the lent table.
use Rattle.words.proofs.Kit.{rules}
use Rattle.index_grow.proofs.AnyLaws.{any_grown}
use Rattle.index_grow.proofs.boundary.grow_to_entry.Goals as goal

pub returns-then-room_for_any : goal.returns-then-room_for_any
returns-then-room_for_any c = search any_grown
