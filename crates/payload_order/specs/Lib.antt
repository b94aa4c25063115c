-- The order of items in a payload, in reading order.

-- both orders: the item of coordinates, and the coordinates of an item
pub mod Order
-- what the two calls answer
pub mod Numbering
