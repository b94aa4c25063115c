-- A turn writes the parts of one field more.
use Rattle.payload_unpack.proofs.BuffersLaws.{parts_turn}
use Rattle.payload_unpack.proofs.tagged.write_parts.Goals as goal

pub loop-k-preserved : goal.loop-k-preserved
loop-k-preserved g c = λ ws e.
    parts_turn (c.loop-k.invariant ws e) c.loop-k-test.true (e _ _ c.loop-k.auto.k c.loop-k-test.true c.field-v.ensures) c.event_of.ensures c.channel_of.ensures
