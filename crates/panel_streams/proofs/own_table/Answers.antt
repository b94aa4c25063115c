-- `own_table` meets its promise: what may not be asked for is refused, and else the record is copied.
use Rattle.words.proofs.PassedLaws.{passed}
use Rattle.table.proofs.StreamLaws.{checked_few, checked_has}
use Rattle.panel_streams.proofs.AskedLaws.{own_refused, own_copied}
use Rattle.panel_streams.proofs.own_table.Goals as goal

pub returns-in_err-check_stream : goal.returns-in_err-check_stream
returns-in_err-check_stream c = rw (passed _ c.from_residual.ensures.1) (search (own_refused, c.in_err-check_stream.ensures))

pub copy_own-requires : goal.copy_own-requires
copy_own-requires c = search (checked_few, checked_has, c.in_ok-check_stream.ensures)

pub returns : goal.returns
returns c = search (own_copied, c.in_ok-check_stream.ensures)
