-- `identity_at` meets its promise: three words of the record, each where it stands.
use Rattle.panel_streams.proofs.RecordLaws.{declared_there}
use borrow.Author.Rules.{rules}
use Rattle.panel_streams.proofs.records.identity_at.Goals as goal

pub returns : goal.returns
returns c = search declared_there
