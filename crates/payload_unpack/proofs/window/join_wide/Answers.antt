-- `join_wide` meets its promise: the bits of the next word fit behind the others (`join_wide_below`).
use Rattle.payload_unpack.proofs.WindowLaws.{join_wide_below}
use Rattle.payload_unpack.proofs.window.join_wide.Goals as goal

pub overflow_add-result : goal.overflow_add-result
overflow_add-result c = search join_wide_below
