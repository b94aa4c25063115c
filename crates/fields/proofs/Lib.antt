-- The laws of fields, each beside its kin.

-- where a field stands: the words from its place on, whether it lies inside, and its place by the bits above its own
pub mod PlaceLaws
-- the sizes of fields
pub mod SizeLaws
-- the field rules
pub mod RuleLaws
-- the walk over the fields of a body
pub mod WalkLaws
-- a type 4 body that is accepted: each field lies inside it and obeys its rule
pub mod BodyLaws
-- the highest field of a body that breaks its rule
pub mod BrokenLaws
-- two answers that meet a public call's promise are equal
pub mod Uniqueness
