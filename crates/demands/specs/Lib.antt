-- The demands. Read Demands first; it speaks in the words of Things, Trace and Right.

-- the three demands, as statements about a program
pub mod Demands
-- a program: what its calls answer and leave
pub mod Program
-- what is kept of Context packets, thing by thing
pub mod Things
-- the list of a table's streams: identifiers and choices
pub mod Listing
-- which packets of a trace are accepted, and the rules over them
pub mod Trace
-- tables that the rules fix
pub mod Right
-- what lasts for one data packet leaves no trace
pub mod Lights
-- what the panel and the caller see
pub mod PanelShows
-- 49A packets: one n, and packets that stay plain
pub mod Survey
-- a stream's own table
pub mod OwnRight
-- stopping and resuming, any number of times
pub mod Resumed
-- jumps to a packet of a recording
pub mod Jumped
-- words past a table's layout
pub mod PastUnread
-- other streams' packets altered
pub mod Altered
-- demand 3 of calls as they are made
pub mod CallsMade
-- many packets in one slice of words
pub mod Recording
-- the refusals of each call, in order
pub mod Refusals
-- which tables, pages and contents of an index are well made
pub mod WellMade
-- where a packet is refused
pub mod PlacesTold
-- the fields of a Context packet
pub mod FieldFound
-- packed words, as a writer makes them
pub mod Clean
-- packed samples as document 01 says them
pub mod Packings
-- the items of a payload by time, channel, component and repeat
pub mod ItemsNumbered
-- what a reading shows, in document 01's words
pub mod ShownAs
-- every public call, with its promise
pub mod Calls
-- the cases marked P, as one table
pub mod Samples
-- each call of the list, tied to its function
pub mod Sources
-- the calls for C
pub mod ForC
-- each call for C, tied to its function
pub mod SourcesForC
