-- `record_of` meets its promise: the record stands at its place, whole.
use Rattle.words.proofs.Kit.{rules}
use Rattle.panel.proofs.ReadingLaws.{lent_record}
use Rattle.panel.proofs.records.record_of.Goals as goal

pub returns : goal.returns
returns c = search (rules, lent_record)
