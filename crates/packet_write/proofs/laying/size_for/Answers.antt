-- `size_for` meets its promise: the sum, part by part.
use Rattle.words.proofs.Kit.{arith, rules}
use Rattle.packet.proofs.RoomLaws.{body_past}
use Rattle.packet_write.proofs.GivenLaws.{size_given}
use Rattle.packet_write.proofs.laying.size_for.Goals as goal

pub returns : goal.returns
returns c = (search size_given, omega (arith, body_past c.args.w), search rules)
