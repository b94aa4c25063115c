-- `type_order` meets its promise: the order of a type follows from its square.
use Rattle.std.proofs.Common.{arith}
use Rattle.record.proofs.CountLaws.{type_square, type_order}
use Rattle.record.proofs.inner.counts.type_order.Goals as goal

pub overflow_mul-result : goal.overflow_mul-result
overflow_mul-result c = omega (arith, type_square)

pub overflow_cast-result : goal.overflow_cast-result
overflow_cast-result c = omega (arith, type_square)

pub returns : goal.returns
returns c = (search type_order, omega (arith, type_square))
