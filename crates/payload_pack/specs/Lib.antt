-- Packing, in reading order.

-- what `pack` answers and leaves
pub mod Pack
-- what only the contracts inside cite
pub mod inner
