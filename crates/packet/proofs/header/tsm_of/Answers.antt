-- `tsm_of` meets its promise: of types 0-3 bit 24 is reserved, and so it is zero.
use Rattle.packet.proofs.RoomLaws.{tsm_bit}
use Rattle.packet.proofs.header.tsm_of.Goals as goal

pub returns : goal.returns
returns c = tsm_bit _ c.requires
