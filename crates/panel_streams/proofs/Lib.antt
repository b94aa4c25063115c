-- The laws of what a table says of a stream, each beside its kin.

-- the public answers
pub mod AskedLaws
-- what the record of a stream says
pub mod RecordLaws
-- fields that are not the same in two records
pub mod ChangedLaws
-- a stream's own table
pub mod OwnLaws
-- two answers that meet a promise are equal
pub mod Uniqueness
