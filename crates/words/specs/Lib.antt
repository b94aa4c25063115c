-- What every crate above speaks with, in reading order.

-- the refusal numbers of document 01
pub mod Numbers
-- tests, and the value that a test picks
pub mod Tests
-- an answer: refused or accepted with its values; what a call leaves in a lent buffer
pub mod Outcome
-- the refusals by their numbers, and a result as such an answer
pub mod Listed
-- a call's refusals in their order: the first that applies is given
pub mod Refusals
-- a refusal's place
pub mod Told
-- a word's bits, and a word as fields by their widths
pub mod Word
-- two's complement
pub mod Signed
-- the set bits of a number, highest first
pub mod SetBits
-- a part of a list, and a list with a part replaced
pub mod Part
-- words laid one after the other
pub mod Laid
-- a test at every number below a bound
pub mod All
-- numbered pieces, one after the other
pub mod Pieces
