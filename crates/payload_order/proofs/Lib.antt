-- The crate's laws.

-- both orders number the same box, one-to-one and onto
pub mod OrderLaws
-- the answers of the two calls
pub mod NumberingLaws
-- two answers that meet a promise are equal
pub mod Uniqueness
