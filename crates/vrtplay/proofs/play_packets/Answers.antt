-- A table that has started is well made.
use Rattle.vrtplay.proofs.WalkLaws.{started_well}
use Rattle.vrtplay.proofs.play_packets.Goals as goal

pub walk-requires : goal.walk-requires
walk-requires g c = started_well _ _ _ _ _ c.in-Ok.ensures
