-- The laws that the crates above cite, each beside its kin.

-- the names of the kit that proofs speak with, passed on
pub mod Kit
-- what `search` is handed for a definition that goes by tests; tests joined; accepted answers
pub mod Cases
-- lists of refusals
pub mod RefusalLaws
-- results on paper
pub mod ListedLaws
-- answers that are told where
pub mod ToldLaws
-- the promise of a call that is lent words: how it is met, and what it tells
pub mod MeetLaws
-- the refusal that `?` passes on
pub mod PassedLaws
-- two answers that meet one promise are equal
pub mod Once
-- a word and its fields
pub mod WordLaws
-- powers of two, and two's complement
pub mod PowerLaws
-- words bit by bit: `&`, `|`, words that agree at every bit
pub mod BitLaws
-- set bits, leading zeros, counts of ones
pub mod SetBitLaws
-- parts of lists
pub mod PartLaws
-- runs of writes
pub mod LaidLaws
-- a copy of words
pub mod CopyLaws
-- a test at every number below a bound
pub mod AllLaws
-- numbered pieces, one after the other
pub mod PieceLaws
