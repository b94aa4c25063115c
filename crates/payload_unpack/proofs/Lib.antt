-- The crate's laws.

-- fields taken from words, one after the other
pub mod ReadingLaws
-- bits of words from any bit on
pub mod WindowLaws
-- the parts of fields, in three buffers
pub mod BuffersLaws
-- what is known where nothing of unpacking is refused, and what it then leaves
pub mod UnpackLaws
