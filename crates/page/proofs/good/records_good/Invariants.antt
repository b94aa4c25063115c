-- `records_good` meets its promise: the records passed are good.
use Rattle.words.proofs.Kit.{◌≤◌, ◌-◌, ◌≡◌, true, rules}
use Rattle.words.specs.All.{all}
use Rattle.words.proofs.AllLaws.{all_none}
use Rattle.table.proofs.TestLaws.{test_passed, test_failed, test_ended}
use Rattle.page.specs.inner.Tested.{record_good_in}
use Rattle.page.proofs.good.records_good.Given as goal

abbrev pub invariant-loop-s : goal.invariant-loop-s
invariant-loop-s l = all l.s (record_good_in l.page) ≡ true
