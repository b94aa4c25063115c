-- `vrt49_start` meets its promise: what start answers and leaves.
use Rattle.vrt49.proofs.AnswerLaws.{value_beside}
use borrow.Author.Rules.{rules}
use Rattle.vrt49.proofs.tables.vrt49_start.Goals as goal

pub returns : goal.returns
returns c = search value_beside
