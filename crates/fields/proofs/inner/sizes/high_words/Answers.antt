-- `high_words` meets its promise: the bits from 15 up and those that are counted again do not meet (`high_ones`).
use Rattle.words.proofs.Kit.{arith}
use Rattle.fields.proofs.SizeLaws.{high_fits, count_fits, high_ones, high_few}
use Rattle.fields.proofs.inner.sizes.high_words.Goals as goal

pub overflow_add-result : goal.overflow_add-result
overflow_add-result c = record { fits = high_fits c.args.bits _ _ (omega arith) (omega arith) }

pub overflow_cast-result : goal.overflow_cast-result
overflow_cast-result c = record { fits = count_fits c.args.bits _ _ (omega arith) (omega arith) }

pub returns : goal.returns
returns c = (search high_ones, search high_few)
