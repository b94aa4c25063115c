-- Definitions that only the contracts inside cite.

-- whether a stream may be asked for
pub mod Checked
