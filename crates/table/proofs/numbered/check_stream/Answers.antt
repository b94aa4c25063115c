-- `check_stream` meets its promise: each test is a line of the definition.
use Rattle.table.proofs.StreamLaws.{stream_ill, stream_over, stream_fine}
use borrow.Author.Rules.{rules}
use Rattle.table.proofs.numbered.check_stream.Goals as goal

pub returns-then-not-well_made : goal.returns-then-not-well_made
returns-then-not-well_made c = search stream_ill

pub returns-then-streams-stream : goal.returns-then-streams-stream
returns-then-streams-stream c = search stream_over

pub returns : goal.returns
returns c = search stream_fine
