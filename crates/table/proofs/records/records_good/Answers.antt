-- `records_good` meets its promise: the records passed are good.
use Rattle.words.proofs.Kit.{rules}
use Rattle.words.proofs.AllLaws.{all_none}
use Rattle.table.proofs.TestLaws.{test_passed, test_failed}
use Rattle.table.proofs.records.records_good.Goals as goal

pub loop-s-init : goal.loop-s-init
loop-s-init c = search (rules, all_none)

pub returns-then-not-record_good_at : goal.returns-then-not-record_good_at
returns-then-not-record_good_at c = search test_failed

pub loop-s-preserved : goal.loop-s-preserved
loop-s-preserved c = search test_passed
