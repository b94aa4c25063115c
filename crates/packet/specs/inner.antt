-- Definitions that only the contracts inside cite.

-- what each step of reading finds
pub mod Steps
