-- `copy_field` meets its promise: a field that has neither 1 nor 2 words has 11, or 13 in two pieces.
use Rattle.record.proofs.CopyLaws.{copied_word, copied_pair, copied_longer, long_inside, copied_long}
use Rattle.std.proofs.Common.{rules}
use Rattle.record.proofs.inner.copies.copy_field.Goals as goal

pub returns-then-n-eq1 : goal.returns-then-n-eq1
returns-then-n-eq1 c = search copied_word

pub returns-then-n-eq2 : goal.returns-then-n-eq2
returns-then-n-eq2 c = search copied_pair

pub copy_eleven-requires : goal.copy_eleven-requires
copy_eleven-requires c = (search long_inside, search long_inside)

pub returns-then-n-eq13 : goal.returns-then-n-eq13
returns-then-n-eq13 c = search copied_longer

pub returns-else-n-eq13 : goal.returns-else-n-eq13
returns-else-n-eq13 c = search copied_long
