-- Definitions that only the contracts inside cite.

-- the stream of a packet
pub mod Steps
-- what the functions inside promise of one packet
pub mod Entered
