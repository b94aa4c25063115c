-- `changed_at` meets its promise: the records of the two streams are lent to `changed_fields`.
use Rattle.panel_streams.proofs.ChangedLaws.{changed_lent}
use borrow.Author.Rules.{rules}
use Rattle.panel_streams.proofs.changes.changed_at.Goals as goal

pub returns : goal.returns
returns c = search changed_lent
