-- The fields of a type 4 body, in reading order.

-- document 01, "Words for each bit"
pub mod Sizes
-- the rule of field 15, which samples are packed by too
pub mod Format
-- the other field rules
pub mod Rules
-- where the fields of a body stand, and the refusals INDICATOR, LAYOUT and FIELD
pub mod Layout
-- the highest field of a body that breaks its rule
pub mod Broken
-- what the calls answer
pub mod Answers
-- what only the contracts inside cite
pub mod inner
