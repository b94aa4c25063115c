-- Unpacking, in reading order. What it shares with packing stands in crate `payload_format`.

-- what `unpack` answers and leaves
pub mod Unpack
-- what only the contracts inside cite
pub mod inner
