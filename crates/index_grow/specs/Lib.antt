-- An index grown by a recording's next packet.

-- what growing answers, and what it leaves in the table and in the index
pub mod Grow
-- what the functions inside promise each other
pub mod inner
