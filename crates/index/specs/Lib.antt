-- The index beside a recording, in reading order.

-- its contents, and the pages behind them
pub mod Layout
-- when contents are well made
pub mod Good
-- what starting an index answers and leaves
pub mod Start
-- what only the contracts inside cite
pub mod inner
