-- `vrt49_words_needed` meets its promise: how many words, or the number of the refusal.
use Rattle.vrt49.proofs.AnswerLaws.{value_given}
use borrow.Author.Rules.{rules}
use Rattle.vrt49.proofs.payloads.vrt49_words_needed.Goals as goal

pub returns : goal.returns
returns c = search value_given
