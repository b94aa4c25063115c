-- The laws of streams of bits.

-- the numbers that bits of a stream write: cut, joined, given in other digits
pub mod SpanLaws
-- an accumulator: bits taken from its left, and put behind its right
pub mod AccumulatorLaws
-- words of which some bits carry packing fields
pub mod CarriedLaws
-- a list of which some places are filled
pub mod FilledLaws
-- bits taken from words, and put into words, by an accumulator
pub mod ReadLaws
pub mod WriteLaws
-- words as one big number
pub mod BigNumber
