-- `all_apart` meets its promise: the identifiers passed stand once.
use Rattle.words.proofs.Kit.{rules}
use Rattle.table.proofs.TestLaws.{test_passed, test_failed}
use Rattle.table.proofs.ListLaws.{first_apart}
use Rattle.table.proofs.identifiers.all_apart.Goals as goal

pub loop-s-init : goal.loop-s-init
loop-s-init c = search (rules, first_apart)

pub returns-then-not-is_apart : goal.returns-then-not-is_apart
returns-then-not-is_apart c = search test_failed

pub loop-s-preserved : goal.loop-s-preserved
loop-s-preserved c = search test_passed
