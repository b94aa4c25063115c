-- `is_held` meets its promise: the bit of the held indicator is tested.
use Rattle.record.specs.Layout.{is_held}
use Rattle.std.proofs.Common.{rules}
use Rattle.record.proofs.inner.held.is_held.Goals as goal

pub bounds-rec-1 : goal.bounds-rec-1
unfolding is_held
bounds-rec-1 c = search rules

pub overflow_shr-result : goal.overflow_shr-result
unfolding is_held
overflow_shr-result c = search rules

pub returns : goal.returns
unfolding is_held
returns c = search rules
