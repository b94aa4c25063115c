-- `in_group` meets its promise: the law of counts of ones.
use Rattle.words.proofs.Kit.{arith}
use Rattle.fields.proofs.SizeLaws.{group_ones, group_few}
use Rattle.fields.proofs.inner.sizes.in_group.Goals as goal

pub overflow_cast-result : goal.overflow_cast-result
overflow_cast-result c = record { fits = omega (arith, group_few c.args.bits c.args.group c.requires) }

pub returns : goal.returns
returns c = (search group_ones, search group_few)
