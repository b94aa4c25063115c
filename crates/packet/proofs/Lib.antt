-- The laws of packets, each beside its kin.

-- where the parts of a packet lie
pub mod RoomLaws
-- what an accepted packet is
pub mod ReadLaws
-- reading in two steps: header and size, and then the rest
pub mod FrontLaws
-- words beyond the size are ignored
pub mod BeyondLaws
-- where a packet is refused
pub mod ToldLaws
-- and that the place lies inside the packet
pub mod InsideLaws
-- two answers that meet a promise are equal
pub mod Uniqueness
