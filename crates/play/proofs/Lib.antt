-- The laws of play, each beside its kin.

-- an accepted packet and its stream
pub mod StreamLaws
-- the record and the body that are lent to a packet, and what hearing it leaves
pub mod PlayLaws
-- what play keeps
pub mod KeepLaws
-- words past a table's layout
pub mod AloneLaws
-- words behind a packet
pub mod BeyondLaws
-- what the checks of a packet found
pub mod CheckedLaws
-- the entry of one packet, and the answers that are made of it
pub mod EntryLaws
-- a run of packets
pub mod RunLaws
-- two answers that meet a promise are equal
pub mod Uniqueness
