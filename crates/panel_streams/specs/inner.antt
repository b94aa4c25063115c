-- Definitions that only the contracts inside cite.

-- what is asked of the record of a stream
pub mod Asked
