-- The crate's laws.

-- what is known where FORMAT and COUNT are not given
pub mod FormatLaws
-- a group of items, multiplied out
pub mod GroupLaws
-- a packing field and its parts
pub mod FieldLaws
-- the two's complement value
pub mod SignLaws
-- two outcomes that meet a promise are equal
pub mod Uniqueness
