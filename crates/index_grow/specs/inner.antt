-- Definitions that only the contracts inside cite.

-- a packet taken in, on a table and an index that are known to be well made
pub mod Steps
