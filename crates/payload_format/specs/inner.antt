-- Definitions that only the contracts inside cite.

-- the sizes of a legal packing
pub mod Legal
-- what the checks answer
pub mod Checked
