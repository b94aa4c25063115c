-- `reading` meets its promise: what may not be asked for is refused, and else the record is read.
use Rattle.words.proofs.PassedLaws.{passed}
use Rattle.panel.proofs.ReadingLaws.{asked_few, asked_has, asked_least, asked_most, reading_refused, reading_shown}
use Rattle.panel.proofs.reading.Goals as goal

pub returns-in_err-check : goal.returns-in_err-check
returns-in_err-check c = rw (passed _ c.from_residual.ensures.1) (search (reading_refused, c.in_err-check.ensures))

pub read_at-requires : goal.read_at-requires
read_at-requires c = search (asked_few, asked_has, asked_least, asked_most, c.in_ok-check.ensures)

pub returns : goal.returns
returns c = search (reading_shown, c.in_ok-check.ensures)
