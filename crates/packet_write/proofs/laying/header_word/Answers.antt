-- `header_word` meets its promise: the fields, shifted by the widths of those after them, are the join of the header (`header_given`).
use Rattle.words.proofs.Kit.{arith, rules}
use Rattle.packet_write.proofs.GivenLaws.{Small, small, header_given}
use Rattle.packet_write.proofs.laying.header_word.Goals.{Start}
use Rattle.packet_write.proofs.laying.header_word.Goals as goal

-- no product and no sum is too large
numbers : (c : Start) → Small c.args.q.now
numbers c = small _ c.requires.1 c.requires.2

pub overflow_mul-flags : goal.overflow_mul-flags
overflow_mul-flags c = omega (arith, numbers ((goal.at.overflow_mul-flags c).Start))

pub overflow_add-flags : goal.overflow_add-flags
overflow_add-flags c = omega (arith, numbers ((goal.at.overflow_add-flags c).Start))

pub overflow_mul-flags-2 : goal.overflow_mul-flags-2
overflow_mul-flags-2 c = omega (arith, numbers ((goal.at.overflow_mul-flags-2 c).Start))

pub overflow_add-flags-2 : goal.overflow_add-flags-2
overflow_add-flags-2 c = omega (arith, numbers ((goal.at.overflow_add-flags-2 c).Start))

pub overflow_mul-flags-3 : goal.overflow_mul-flags-3
overflow_mul-flags-3 c = omega (arith, numbers ((goal.at.overflow_mul-flags-3 c).Start))

pub overflow_add-flags-3 : goal.overflow_add-flags-3
overflow_add-flags-3 c = omega (arith, numbers ((goal.at.overflow_add-flags-3 c).Start))

pub overflow_mul-result : goal.overflow_mul-result
overflow_mul-result c = omega (arith, numbers ((goal.at.overflow_mul-result c).Start))

pub overflow_add-result : goal.overflow_add-result
overflow_add-result c = omega (arith, numbers ((goal.at.overflow_add-result c).Start))

pub overflow_mul-result-2 : goal.overflow_mul-result-2
overflow_mul-result-2 c = omega (arith, numbers ((goal.at.overflow_mul-result-2 c).Start))

pub overflow_add-result-2 : goal.overflow_add-result-2
overflow_add-result-2 c = omega (arith, numbers ((goal.at.overflow_add-result-2 c).Start))

pub overflow_mul-result-3 : goal.overflow_mul-result-3
overflow_mul-result-3 c = omega (arith, numbers ((goal.at.overflow_mul-result-3 c).Start))

pub overflow_add-result-3 : goal.overflow_add-result-3
overflow_add-result-3 c = omega (arith, numbers ((goal.at.overflow_add-result-3 c).Start))

pub overflow_mul-result-4 : goal.overflow_mul-result-4
overflow_mul-result-4 c = omega (arith, numbers ((goal.at.overflow_mul-result-4 c).Start))

pub returns : goal.returns
returns c = search header_given
