-- `class_word` meets its promise: numbers that fit, shifted by the widths of those after them, are the join.
use Rattle.words.proofs.Kit.{arith, rules}
use Rattle.words.specs.Word.{join}
use Rattle.packet_write.specs.Write.{class_word}
use Rattle.packet_write.proofs.laying.class_word.Goals as goal

pub returns : goal.returns
unfolding class_word join
returns c = omega arith
