-- The trailer word: what it says, and what making one answers.
pub mod Trailer
