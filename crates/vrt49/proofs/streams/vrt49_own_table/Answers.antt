-- `vrt49_own_table` meets its promise: what `own_table` answers and leaves.
use Rattle.vrt49.proofs.AnswerLaws.{value_beside}
use borrow.Author.Rules.{rules}
use Rattle.vrt49.proofs.streams.vrt49_own_table.Goals as goal

pub returns : goal.returns
returns c = search value_beside
