-- Definitions that only the contracts inside cite.

-- what the functions inside are given
pub mod Packable
-- numbers that fit, tested at once
pub mod AnyBits
