-- `mark` meets its promise: the weight of the bit is added, or nothing.
use Rattle.panel_streams.proofs.ChangedLaws.{weight_fits, sum_fits, bit_set, bit_clear}
use borrow.Author.Rules.{rules}
use Rattle.panel_streams.proofs.changes.mark.Goals as goal

pub overflow_cast-result : goal.overflow_cast-result
overflow_cast-result c = search weight_fits

pub overflow_add-result : goal.overflow_add-result
overflow_add-result c = search sum_fits

pub returns-then-test : goal.returns-then-test
returns-then-test c = search bit_set

pub returns : goal.returns
returns c = search bit_clear
