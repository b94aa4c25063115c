-- The laws of pages, each beside its kin.

-- a record and its body
pub mod BodyLaws
-- the page of some bodies, and the table of some records
pub mod LayoutLaws
-- words past a table's layout
pub mod AloneLaws
-- when contents are right
pub mod ContentsLaws
-- save and put back undo each other, and the tests accept exactly the pages that are saved
pub mod Exact
-- the same over words below 2^32
pub mod WordsLaws
-- how long a page is
pub mod Bounds
-- pieces that are written one after the other
pub mod WriteLaws
-- how saving goes: the bodies' lengths, the pairs, the bodies, and its answers
pub mod SaveLaws
-- the held words of a record, laid into a page
pub mod SqueezeLaws
-- how a program tests a page
pub mod GoodLaws
-- how putting back goes: a body's record, the records behind S, and its answers
pub mod PutLaws
-- saving and putting back, one after the other
pub mod RoundTrip
-- two answers that meet a promise are equal
pub mod Uniqueness
