-- `vrt49_held_words` meets its promise: what `held_words` answers and leaves.
use Rattle.vrt49.proofs.AnswerLaws.{value_beside}
use borrow.Author.Rules.{rules}
use Rattle.vrt49.proofs.readings.vrt49_held_words.Goals as goal

pub returns : goal.returns
returns c = search value_beside
