-- `vrt49_save` meets its promise: what saving answers and leaves.
use Rattle.vrt49.proofs.AnswerLaws.{value_beside}
use borrow.Author.Rules.{rules}
use Rattle.vrt49.proofs.pages.vrt49_save.Goals as goal

pub returns : goal.returns
returns c = search value_beside
