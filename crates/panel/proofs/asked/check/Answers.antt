-- `check` meets its promise: what is refused of the stream's number is given on, and else the bit is tested.
use Rattle.words.proofs.PassedLaws.{passed}
use Rattle.panel.proofs.ReadingLaws.{asked_refused, asked_bit}
use Rattle.panel.proofs.asked.check.Goals as goal

pub returns-in_err-check_stream : goal.returns-in_err-check_stream
returns-in_err-check_stream c = rw (passed _ c.from_residual.ensures.1) (search (asked_refused, c.in_err-check_stream.ensures))

pub returns : goal.returns
returns c = search (asked_bit, c.in_ok-check_stream.ensures)
