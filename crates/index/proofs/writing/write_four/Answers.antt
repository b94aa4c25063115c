-- `write_four` meets its promise: four stores are a part that is replaced.
use Rattle.words.proofs.Kit.{arith, rules}
use lib.ListN.{length-set}
use Rattle.index.proofs.WriteLaws.{four_stores}
use Rattle.index.proofs.writing.write_four.Goals as goal

pub bounds-index-at-2 : goal.bounds-index-at-2
bounds-index-at-2 c = simp length-set (omega arith)

pub bounds-index-at-3 : goal.bounds-index-at-3
bounds-index-at-3 c = simp length-set (omega arith)

pub bounds-index-at-4 : goal.bounds-index-at-4
bounds-index-at-4 c = simp length-set (omega arith)

pub returns : goal.returns
returns c = search four_stores
