-- The proofs of the demands. AllMet has the theorems; the others are what they cite, each file opening with its idea.

-- proofs one after the other
-- some outcome meets every promise
pub mod Answered
mod Named
-- every promise leaves one outcome, and a refusal the lent words
pub mod Once
-- each call gives the first refusal of its list that applies
pub mod InOrder
-- which tables, pages and contents of an index are well made
pub mod WellMade
-- where a packet is refused
pub mod PlacesTold
-- the fields of a Context packet are found
pub mod FieldFound
-- an accepted packet written again gives the same words, and what was written reads back
pub mod Again
pub mod Back
-- 49A packets: one n, and packets that stay plain
pub mod Survey
-- packed and unpacked again, unpacked and packed again
pub mod RoundTrip
-- what the definition of packing says of each packing, in document 01's words
pub mod Packings
-- the items of a payload, by time, channel, component and repeat
pub mod ItemsNumbered
-- the rules of a trace, when a packet more is heard
pub mod RuleLaws
-- playing on a table of a list, as the trace tells it
pub mod HearingLaws
-- one packet more, in the record of its stream
pub mod RecordLaws
-- a field and its things
pub mod ThingLaws
-- a table stays right, packet by packet
pub mod RightLaws
-- the rules leave nothing open
pub mod Determined
-- overload lights go out
pub mod Lights
-- what is seen is what is held
pub mod PanelShows
-- a stream's own table is right
pub mod OwnRight
-- stopping and resuming, any number of times
pub mod Resumed
-- two tables with one layout
pub mod SameLayout
-- an index grown over a recording, and jumps
pub mod GrownLaws
pub mod Jumped
-- words past a table's layout
pub mod PastUnread
-- other streams' packets altered
pub mod Separate
-- a run plays a recording's packets
pub mod RunLaws
-- demand 3 of calls as they are made
pub mod CallsMade
-- the demands are met
pub mod AllMet
-- the bench's samples
pub mod Samples
-- five useless programs, shut out
pub mod Useless
-- the list of calls is the functions' own promises
pub mod Sources
-- and so is that of the calls for C
pub mod SourcesForC
-- what a reading shows, in document 01's words
pub mod ShownAs
