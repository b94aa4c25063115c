-- What the calls for C give, in reading order.

-- the number that a call gives, and what it leaves in the places that it was lent
pub mod Answers
-- packets, trailers and the fields of a body
pub mod Packets
-- packed samples: the coordinates of an item as words
pub mod Payloads
-- tables of streams
pub mod Tables
-- the index beside a recording
pub mod Indexes
-- readings for the panel
pub mod Readings
-- what a table says of a stream
pub mod Streams
-- every call, with its promise and its refusals
pub mod Calls
