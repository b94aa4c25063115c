-- `take_field` meets its promise: one `take`, or two that `took_wide` joins.
use Rattle.words.proofs.Kit.{◌^◌, ◌<◌, arith, rules}
use Rattle.bitstream.proofs.ReadLaws.{narrow_takeable, field_bits, front_takeable, back_takeable, front_small, took_wide}
use Rattle.bitstream.proofs.inner.accumulator.Accumulator.take_field.Goals.{After-take-high}
use Rattle.bitstream.proofs.inner.accumulator.Accumulator.take_field.Goals as goal

high_small : (c : After-take-high) → c.take-high.result < 2 ^ 32
high_small c = search front_small

pub take-requires : goal.take-requires
take-requires c = search (narrow_takeable, field_bits)

pub take-high-requires : goal.take-high-requires
take-high-requires c = search (rules, front_takeable)

pub take-last-requires : goal.take-last-requires
take-last-requires c = search (rules, back_takeable)

pub overflow_mul-result : goal.overflow_mul-result
overflow_mul-result c = omega (arith, high_small ((goal.at.overflow_mul-result c).After-take-high))

pub overflow_add-result : goal.overflow_add-result
overflow_add-result c = omega (arith, high_small ((goal.at.overflow_add-result c).After-take-high))

pub returns : goal.returns
returns c = search took_wide
