-- The Standard Data Packet of 49A, in reading order.

-- what its class says
pub mod Class
-- what its payload holds
pub mod Payload
