-- Definitions that only the contracts inside cite.

-- whether a field may be asked for
pub mod Asked
-- held words copied to a buffer
pub mod Copied
