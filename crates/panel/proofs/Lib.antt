-- The laws of readings, each beside its kin.

-- two's complement, whole hertz and parts, and signed numbers as the machine has them
pub mod ValueLaws
-- an exact quotient as a float
pub mod Quotient
-- the bit pattern of that float, by its three fields
pub mod Pattern
-- refusals, fields in a record, and the answers
pub mod ReadingLaws
-- what the words of a field show
pub mod ShowLaws
-- what a field shows, read where it stands in its record
pub mod InRecordLaws
-- all readings at once
pub mod AllReadingLaws
-- two answers that meet a promise are equal
pub mod Uniqueness
