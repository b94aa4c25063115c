-- `counts_at` meets its promise: a type that is not counted is refused, and else its count is read.
use Rattle.panel_streams.proofs.RecordLaws.{type_counted, count_value, count_said}
use borrow.Author.Rules.{rules}
use Rattle.panel_streams.proofs.records.counts_at.Goals as goal

pub returns-then-not-is_counted : goal.returns-then-not-is_counted
returns-then-not-is_counted c = search count_value

pub count_in-requires : goal.count_in-requires
count_in-requires c = (search rules, search rules, search type_counted)

pub returns : goal.returns
returns c = search count_said
