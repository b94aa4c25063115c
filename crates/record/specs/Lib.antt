-- One stream's record, in reading order.

-- which fields are held, and words in field order
pub mod Held
-- what is held of a state word
pub mod State
-- the words of a record, and what stands where
pub mod Layout
-- the count of a type after a packet
pub mod Counts
-- the record after a packet
pub mod After
-- when a record is good
pub mod Good
-- what only the contracts inside cite
pub mod inner
