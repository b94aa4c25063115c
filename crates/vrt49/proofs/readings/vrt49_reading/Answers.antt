-- `vrt49_reading` meets its promise: the numbers of the reading, or the number of the refusal.
use Rattle.words.proofs.Kit.{rules}
use mir.Facts.{to_z-of_z}
use mir.Syntax.{w64}
use borrow.Author.Rules.{sfits_of}
use Rattle.vrt49.specs.Readings.{reading_values}
use Rattle.vrt49.proofs.AnswerLaws.{tells_number, tells_answer}
use Rattle.vrt49.proofs.readings.vrt49_reading.Goals as goal

pub returns-in-Err : goal.returns-in-Err
returns-in-Err c = search (tells_number, c.in-Err.ensures)

pub returns-in-Ok : goal.returns-in-Ok
returns-in-Ok c =
    let e = to_z-of_z {w = w64} {z = c.numbers_of-v.result.hertz} (search rules) in
    tells_answer reading_values _ _ _ _ c.in-Ok.ensures (rw (e, c.numbers_of-v.ensures))
