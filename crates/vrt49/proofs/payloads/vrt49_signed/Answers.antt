-- `vrt49_signed` meets its promise: the value, or the number of the refusal.
use Rattle.words.proofs.Kit.{rules}
use mir.Facts.{to_z-of_z}
use mir.Syntax.{w64}
use borrow.Author.Rules.{sfits_of}
use Rattle.vrt49.specs.Answers.{plain}
use Rattle.vrt49.proofs.AnswerLaws.{tells_number, tells_answer}
use Rattle.vrt49.proofs.payloads.vrt49_signed.Goals as goal

pub returns-in-Err : goal.returns-in-Err
returns-in-Err c = tells_number plain _ _ _ _ c.in-Err.ensures c.from.ensures

pub returns-in-Ok : goal.returns-in-Ok
returns-in-Ok c = tells_answer plain _ _ _ _ c.in-Ok.ensures (to_z-of_z {w = w64} (search rules))
