-- `write_records` meets its promise. The invariant `Starting` says that the records passed are fresh and the rest is as it was.
use Rattle.table.proofs.StartLaws.{writing_start, writing_turn}
use Rattle.table.proofs.records.write_records.Goals as goal

pub loop-s-init : goal.loop-s-init
loop-s-init c = search writing_start

pub loop-s-preserved : goal.loop-s-preserved
loop-s-preserved c = search writing_turn
