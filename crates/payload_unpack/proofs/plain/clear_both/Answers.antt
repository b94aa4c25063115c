-- `clear_both` meets its promise: a turn clears one place more of both.
use Rattle.bitstream.proofs.FilledLaws.{fills_turn, fills_all}
use Rattle.payload_unpack.proofs.plain.clear_both.Goals as goal

pub loop-k-preserved : goal.loop-k-preserved
loop-k-preserved c = search fills_turn

pub returns : goal.returns
returns c = search fills_all
