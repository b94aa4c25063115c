-- Definitions that only the contracts inside cite.

-- a buffer of which a later loop fills more places
pub mod FilledOn
-- an accumulator of bits
pub mod Accumulator
