-- `write_pair` meets its promise: two words are written, one behind the other.
use Rattle.words.proofs.Kit.{arith, rules}
use lib.ListN.{length-set}
use Rattle.page.proofs.SaveLaws.{pair_written}
use Rattle.page.proofs.saving.write_pair.Goals as goal

pub bounds-page-at-2 : goal.bounds-page-at-2
bounds-page-at-2 c = simp length-set (omega arith)

pub returns : goal.returns
returns c = search pair_written
