-- The page of a table, in reading order.

-- a stream's body in a page
pub mod Body
-- the page of a table, and what stands where in a page
pub mod Layout
-- when a page is well made
pub mod Good
-- what saving answers and leaves
pub mod Save
-- what putting back answers and leaves
pub mod PutBack
-- what the functions inside promise each other
pub mod inner
