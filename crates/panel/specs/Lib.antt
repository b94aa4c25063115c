-- Readings for the panel, in reading order.

-- whole hertz and parts, and exact quotients as floats
pub mod Values
-- the fields of a float, as whole numbers
pub mod Pattern
-- what a reading shows, and its refusals
pub mod Readings
-- all readings of a stream at once
pub mod AllReadings
-- the held words themselves
pub mod HeldWords
-- what only the contracts inside cite
pub mod inner
