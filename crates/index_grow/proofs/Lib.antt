-- The laws of growing, each beside its kin.

-- what an index that is well made has
pub mod ReadyLaws
-- the next entry of an index
pub mod EntryLaws
-- a packet that is played
pub mod PacketLaws
-- what growing answers and leaves
pub mod GrowLaws
-- what an answer of growing tells
pub mod AnswerLaws
-- room for the next entry behind any packet
pub mod AnyLaws
-- a packet taken in on a copy of the table's layout
pub mod CopyLaws
-- what growing keeps of an index
pub mod KeptLaws
-- two answers that meet the promise are equal
pub mod Uniqueness
