-- Playing packets on a table, in reading order.

-- one packet
pub mod Play
-- many, one after the other
pub mod Run
-- what only the contracts inside cite
pub mod inner
