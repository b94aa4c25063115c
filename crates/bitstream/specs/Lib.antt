-- Streams of bits, in reading order.

-- a stream of bits in digits of any width, and the numbers that its bits write
pub mod Stream
-- packing fields in words of which some bits carry them
pub mod Carried
-- words as one big number
pub mod BigNumber
-- a buffer of which the first places are filled
pub mod Filled
-- what only the contracts inside cite
pub mod inner
