-- `vrt49_start_index` meets its promise: what starting an index answers and leaves.
use Rattle.vrt49.proofs.AnswerLaws.{value_beside}
use borrow.Author.Rules.{rules}
use Rattle.vrt49.proofs.indexes.vrt49_start_index.Goals as goal

pub returns : goal.returns
returns c = search value_beside
