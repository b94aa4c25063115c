-- `readings` meets its promise: what is refused of the stream's number is given on, and else the record is read.
use Rattle.words.proofs.PassedLaws.{passed}
use Rattle.table.proofs.StreamLaws.{checked_few, checked_has}
use Rattle.panel.proofs.AllReadingLaws.{readings_refused, all_shown}
use Rattle.panel.proofs.readings.Goals as goal

pub returns-in_err-check_stream : goal.returns-in_err-check_stream
returns-in_err-check_stream c = rw (passed _ c.from_residual.ensures.1) (search (readings_refused, c.in_err-check_stream.ensures))

pub read_all_at-requires : goal.read_all_at-requires
read_all_at-requires c = search (checked_few, checked_has, c.in_ok-check_stream.ensures)

pub returns : goal.returns
returns c = search (all_shown, c.in_ok-check_stream.ensures)
