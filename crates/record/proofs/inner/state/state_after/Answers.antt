-- `state_after` meets its promise.
use Rattle.record.proofs.StateLaws.{state_merged}
use Rattle.std.proofs.Common.{rules}
use Rattle.record.proofs.inner.state.state_after.Goals as goal

pub returns : goal.returns
returns c = search state_merged
