-- `count_in` meets its promise: the three words of the count stand in the record, and the record in the table.
use Rattle.panel_streams.proofs.RecordLaws.{count_none, count_some}
use borrow.Author.Rules.{rules}
use Rattle.panel_streams.proofs.records.count_in.Goals as goal

pub returns-then-last-eq0 : goal.returns-then-last-eq0
returns-then-last-eq0 c = search count_none

pub returns : goal.returns
returns c = search count_some
