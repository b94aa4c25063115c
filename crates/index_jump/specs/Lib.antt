-- A jump to a packet of a recording.

-- packets one after the other, from a place on
pub mod Onward
-- what a jump answers, and what it leaves in the table
pub mod Jump
-- what the functions inside promise each other
pub mod inner
