-- The table of streams, in reading order.

-- word 0, and the records behind it
pub mod Layout
-- when a list of identifiers and its choices are valid, where an identifier stands in it, and whether 49A is chosen for one
pub mod Identifiers
-- when a table is well made
pub mod Well
-- what is refused of a stream's number
pub mod Stream
-- what start answers, and the table that it leaves
pub mod Start
-- what only the contracts inside cite
pub mod inner
