-- `record_in` meets its promise: the words from the record's place on.
use Rattle.words.proofs.Kit.{rules}
use Rattle.table.proofs.WellLaws.{record_lent}
use Rattle.table.proofs.layout.record_in.Goals as goal

pub returns : goal.returns
returns c = search record_lent
