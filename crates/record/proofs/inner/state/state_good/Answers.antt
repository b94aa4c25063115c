-- `state_good` meets its promise.
use Rattle.record.proofs.StateLaws.{state_tested}
use Rattle.std.proofs.Common.{rules}
use Rattle.record.proofs.inner.state.state_good.Goals as goal

pub returns : goal.returns
returns c = search state_tested
