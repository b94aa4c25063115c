-- `class_first` meets its promise: numbers that fit, shifted by the widths of those after them, are the join.
use Rattle.words.proofs.Kit.{arith, rules}
use Rattle.words.specs.Word.{join}
use Rattle.packet_write.specs.Write.{class_first}
use Rattle.packet_write.proofs.laying.class_first.Goals as goal

pub returns : goal.returns
unfolding class_first join
returns c = omega arith
