-- `vrt49_put_back` meets its promise: what putting back answers and leaves.
use Rattle.vrt49.proofs.AnswerLaws.{value_beside}
use borrow.Author.Rules.{rules}
use Rattle.vrt49.proofs.pages.vrt49_put_back.Goals as goal

pub returns : goal.returns
returns c = search value_beside
