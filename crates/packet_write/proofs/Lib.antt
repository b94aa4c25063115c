-- The laws of writing a packet, each beside its kin.

-- what the checks of writing tell
pub mod FitLaws
-- the words of a packet by their pieces
pub mod LayLaws
-- a header that was made of parts, read again
pub mod HeaderLaws
-- the parts of a packet as fifteen words
pub mod GivenLaws
-- the steps of writing, one after the other
pub mod WriteLaws
