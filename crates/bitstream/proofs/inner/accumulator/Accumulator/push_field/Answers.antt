-- `push_field` meets its promise: one `push`, or two that `pushed_wide` joins.
use Rattle.bitstream.proofs.WriteLaws.{narrow_pushable, front_pushable, back_pushable, pushed_wide}
use Rattle.bitstream.proofs.inner.accumulator.Accumulator.push_field.Goals as goal

pub push-requires : goal.push-requires
push-requires c = search narrow_pushable

pub push-requires-2 : goal.push-requires-2
push-requires-2 c = search front_pushable

pub push-requires-3 : goal.push-requires-3
push-requires-3 c = search back_pushable

pub returns : goal.returns
returns c = search pushed_wide
