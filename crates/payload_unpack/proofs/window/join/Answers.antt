-- `join` meets its promise: two shifts do what one by 32 at most does (`join_is`).
use Rattle.payload_unpack.proofs.WindowLaws.{join_below, join_is}
use Rattle.payload_unpack.proofs.window.join.Goals as goal

pub overflow_add-result : goal.overflow_add-result
overflow_add-result c = search join_below

pub returns : goal.returns
returns c = search join_is
