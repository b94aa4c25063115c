-- `identity` meets its promise: what may not be asked for is refused, and else the record says it.
use Rattle.words.proofs.PassedLaws.{passed}
use Rattle.table.proofs.StreamLaws.{checked_few, checked_has}
use Rattle.panel_streams.proofs.AskedLaws.{identity_refused, identity_said}
use Rattle.panel_streams.proofs.identity.Goals as goal

pub returns-in_err-check_stream : goal.returns-in_err-check_stream
returns-in_err-check_stream c = rw (passed _ c.from_residual.ensures.1) (search (identity_refused, c.in_err-check_stream.ensures))

pub identity_at-requires : goal.identity_at-requires
identity_at-requires c = search (checked_few, checked_has, c.in_ok-check_stream.ensures)

pub returns : goal.returns
returns c = search (identity_said, c.in_ok-check_stream.ensures)
