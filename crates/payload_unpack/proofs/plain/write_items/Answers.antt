-- A turn fills one place more, with what the call gave.
use Rattle.bitstream.proofs.FilledLaws.{fills_turn}
use Rattle.payload_unpack.proofs.plain.write_items.Goals as goal

pub loop-k-preserved : goal.loop-k-preserved
loop-k-preserved g c = λ h e. fills_turn (c.loop-k.invariant h e) c.loop-k-test.true (e _ _ c.loop-k.auto.k c.loop-k-test.true c.value.ensures)
