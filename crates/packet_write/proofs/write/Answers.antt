-- `write` meets its promise: the words that it hands on give its parts (`written`).
use Rattle.words.proofs.Kit.{rules}
use Rattle.packet_write.proofs.GivenLaws.{written}
use Rattle.packet_write.proofs.write.Goals as goal

pub returns : goal.returns
returns c = search written
