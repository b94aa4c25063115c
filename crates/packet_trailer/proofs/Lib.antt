-- The laws of the trailer word.

-- a trailer word taken apart and made again
pub mod TrailerLaws
-- two answers that meet a promise are equal
pub mod Uniqueness
