-- Definitions that only the contracts inside cite.

-- packets walked over, and a landing in words of its own
pub mod Steps
