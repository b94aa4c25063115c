-- `words_of` meets its promise: the words give the parts again (`parts_again`).
use Rattle.words.proofs.Kit.{rules}
use Rattle.packet_write.proofs.GivenLaws.{parts_again}
use Rattle.packet_write.proofs.words_of.Goals as goal

pub returns : goal.returns
returns c = search parts_again
