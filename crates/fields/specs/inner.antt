-- Definitions that only the contracts inside cite.

-- the rows of sizes as groups of bits
pub mod Groups
-- the rules as the program asks them
pub mod Limits
