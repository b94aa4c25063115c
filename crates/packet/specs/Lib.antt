-- A packet, in reading order.

-- the header word
pub mod Header
-- the parts of a packet, their order and places, and what each says
pub mod Parts
-- what reading answers
pub mod Read
-- what a reading that follows 49A gives
pub mod Survey
-- where a refusal stands, and what reading answers with it
pub mod Told
-- what only the contracts inside cite
pub mod inner
