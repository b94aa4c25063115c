-- `vrt49_write_survey` meets its promise: what writing answers and leaves.
use Rattle.vrt49.proofs.AnswerLaws.{value_beside}
use borrow.Author.Rules.{rules}
use Rattle.vrt49.proofs.packets.vrt49_write_survey.Goals as goal

pub returns : goal.returns
returns c = search value_beside
