-- Shared laws of the program.

-- why a walk ends
pub mod WalkLaws
