-- `vrt49_pack` meets its promise: what packing answers and leaves.
use Rattle.vrt49.proofs.AnswerLaws.{value_beside}
use borrow.Author.Rules.{rules}
use Rattle.vrt49.proofs.payloads.vrt49_pack.Goals as goal

pub returns : goal.returns
returns c = search value_beside
