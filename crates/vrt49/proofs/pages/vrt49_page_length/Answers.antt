-- `vrt49_page_length` meets its promise: the length, or the number of the refusal.
use Rattle.vrt49.proofs.AnswerLaws.{value_given}
use borrow.Author.Rules.{rules}
use Rattle.vrt49.proofs.pages.vrt49_page_length.Goals as goal

pub returns : goal.returns
returns c = search value_given
