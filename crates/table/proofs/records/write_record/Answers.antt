-- `write_record` meets its promise: the array is the fresh record, and its copy is the record replaced.
use Rattle.table.proofs.StartLaws.{record_copied}
use borrow.Author.Rules.{rules}
use Rattle.table.proofs.records.write_record.Goals as goal

pub returns : goal.returns
returns c = search record_copied
