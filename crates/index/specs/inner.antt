-- Definitions that only the contracts inside cite.

-- a table's page saved into an index, with its entry and without
pub mod Entered
