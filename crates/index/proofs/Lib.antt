-- The laws of an index, each beside its kin.

-- words of an entry
pub mod ReadLaws
-- words that are written into the contents
pub mod WriteLaws
-- a page saved into an index
pub mod EnterLaws
-- when contents are well made
pub mod GoodLaws
-- what stands in an index after words were written into it
pub mod WrittenLaws
