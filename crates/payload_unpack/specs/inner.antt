-- Definitions that only the contracts inside cite.

-- what the functions inside are given
pub mod Unpackable
