-- `spoken_by` meets its promise.
use Rattle.record.proofs.StateLaws.{spoken_mask}
use Rattle.record.proofs.inner.state.spoken_by.Goals as goal

pub returns : goal.returns
returns c = search spoken_mask
