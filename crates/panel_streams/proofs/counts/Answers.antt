-- `counts` meets its promise: what may not be asked for is refused, and else the record says it.
use Rattle.words.proofs.PassedLaws.{passed}
use Rattle.table.proofs.StreamLaws.{checked_few, checked_has}
use Rattle.panel_streams.proofs.AskedLaws.{counts_refused, counts_said}
use Rattle.panel_streams.proofs.counts.Goals as goal

pub returns-in_err-check_stream : goal.returns-in_err-check_stream
returns-in_err-check_stream c = rw (passed _ c.from_residual.ensures.1) (search (counts_refused, c.in_err-check_stream.ensures))

pub counts_at-requires : goal.counts_at-requires
counts_at-requires c = search (checked_few, checked_has, c.in_ok-check_stream.ensures)

pub returns : goal.returns
returns c = search (counts_said, c.in_ok-check_stream.ensures)
