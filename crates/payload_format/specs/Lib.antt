-- The payload format, in reading order.

-- the format's two words, and FORMAT
pub mod Format
-- how many items, and how many words: COUNT
pub mod Count
-- a packing field and its parts
pub mod Field
-- what `signed` answers
pub mod Signs
-- what only the contracts inside cite
pub mod inner
