-- `clear_events` meets its promise: a turn clears one place more.
use Rattle.bitstream.proofs.FilledLaws.{fills_turn, fills_all}
use Rattle.payload_unpack.proofs.plain.clear_events.Goals as goal

pub loop-k-preserved : goal.loop-k-preserved
loop-k-preserved c = search fills_turn

pub returns : goal.returns
returns c = search fills_all
