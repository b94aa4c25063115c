-- `play` meets its promise: a table that is not well made is refused, and else the packet is played on it.
use Rattle.words.proofs.Kit.{sym}
use Rattle.play.proofs.EntryLaws.{play_unmade, play_made, entered_sayable}
use Rattle.play.proofs.play.Goals as goal

pub returns-in_default : goal.returns-in_default
returns-in_default c = play_unmade _ _ (sym c.in_default.ensures)

pub answer_of-requires : goal.answer_of-requires
answer_of-requires c = entered_sayable (sym c.in-true.ensures) c.run_one.ensures

pub returns : goal.returns
returns c = play_made _ _ _ _ _ (sym c.in-true.ensures) c.run_one.ensures c.answer_of.ensures
