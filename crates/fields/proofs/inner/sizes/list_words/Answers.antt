-- `list_words` meets its promise: the sum is the definition's, and the last product is at most twice the list.
use Rattle.words.proofs.Kit.{refl, ◌/◌, ◌%◌, ◌^◌, arith}
use Rattle.fields.specs.Sizes.{list_words}
use Rattle.fields.proofs.SizeLaws.{twice_at_most}
use Rattle.fields.proofs.inner.sizes.list_words.Goals as goal

pub overflow_mul-result : goal.overflow_mul-result
overflow_mul-result c = omega (arith, twice_at_most (c.args.b % 2 ^ 15) (c.args.b / 2 ^ 15 % 2) (omega arith))

pub overflow_add-result-5 : goal.overflow_add-result-5
overflow_add-result-5 c = omega (arith, twice_at_most (c.args.b % 2 ^ 15) (c.args.b / 2 ^ 15 % 2) (omega arith))

pub returns : goal.returns
unfolding list_words
returns c = (refl, omega (arith, twice_at_most (c.args.b % 2 ^ 15) (c.args.b / 2 ^ 15 % 2) (omega arith)))
