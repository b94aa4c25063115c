-- Writing a packet, in reading order.

-- what it answers and leaves
pub mod Write
-- a packet's parts as words
pub mod AsWords
-- what only the contracts inside cite
pub mod inner
