-- `vrt49_item_at` meets its promise: the item, or the number of the refusal.
use Rattle.words.proofs.Kit.{rules}
use Rattle.vrt49.proofs.AnswerLaws.{value_given}
use Rattle.vrt49.proofs.payloads.vrt49_item_at.Goals as goal

pub returns : goal.returns
returns c = search value_given
