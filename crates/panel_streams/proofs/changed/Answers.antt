-- `changed` meets its promise: what may not be asked for is refused, and else the two records are held against each other.
use Rattle.words.proofs.PassedLaws.{passed}
use Rattle.panel_streams.proofs.ChangedLaws.{changed_few, changed_has, changed_other_few, changed_other_has, changed_refused, changed_said}
use Rattle.panel_streams.proofs.changed.Goals as goal

pub returns-in_err-check : goal.returns-in_err-check
returns-in_err-check c = rw (passed _ c.from_residual.ensures.1) (search (changed_refused, c.in_err-check.ensures))

pub changed_at-requires : goal.changed_at-requires
changed_at-requires c = search (changed_few, changed_has, changed_other_few, changed_other_has, c.in_ok-check.ensures)

pub returns : goal.returns
returns c = search (changed_said, c.in_ok-check.ensures)
