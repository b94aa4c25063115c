-- Definitions that only the contracts inside cite.

-- the parts of a packet as fifteen words
pub mod Given
-- what each step of writing finds
pub mod Steps
