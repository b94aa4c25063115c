-- The laws of a jump, each beside its kin.

-- packets one after the other
pub mod BehindLaws
-- those of fewer words
pub mod WithinLaws
-- a run of them
pub mod RunLaws
-- how the walk over them goes
pub mod WalkLaws
-- an entry's page in an index
pub mod PageLaws
-- a landing in words of its own
pub mod LandLaws
-- a jump to the boundary of an entry
pub mod BoundaryLaws
-- what a jump answers
pub mod JumpLaws
-- when PLACE is given, and how many packets a jump plays
pub mod Facts
-- two answers that meet a promise are equal
pub mod Uniqueness
