-- Definitions that only the contracts inside cite.

-- when the words before the slots are good
pub mod Head
-- when the slots of some bits are good
pub mod Between
-- fields put into their slots by parts of the bits
pub mod Filled
