-- The laws of tables, each beside its kin.

-- a loop that tests one number after the other
pub mod TestLaws
-- records of a table: read, replaced
pub mod RecordLaws
-- lists of identifiers, and choices
pub mod ListLaws
-- a well-made table
pub mod WellLaws
-- a stream's number, and whether 49A is chosen for an identifier
pub mod StreamLaws
-- words past a table's layout
pub mod AloneLaws
-- a fresh table
pub mod StartLaws
