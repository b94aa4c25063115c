-- What a table says of a stream, in reading order.

-- its identifier, its choice and its held indicator
pub mod Identity
-- what it counted of a type
pub mod TypeCounts
-- its record as a table of its own
pub mod OwnTable
-- which held fields are not the same in two records
pub mod Changed
-- what only the contracts inside cite
pub mod inner
