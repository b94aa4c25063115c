-- `record_good_at` meets its promise: the record is lent to `record_good`.
use Rattle.table.proofs.WellLaws.{record_long, record_tested}
use Rattle.table.proofs.records.record_good_at.Goals as goal

pub record_good-requires : goal.record_good-requires
record_good-requires c = search record_long

pub returns : goal.returns
returns c = search record_tested
