-- The crate's laws.

-- numbers that fit, tested all at once
pub mod FitLaws
-- fields put into words, one after the other
pub mod WritingLaws
-- what is known where nothing of packing is refused, and what it then leaves
pub mod PackLaws
