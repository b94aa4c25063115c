-- `check` meets its promise: each test is a line of the definition.
use Rattle.panel_streams.proofs.ChangedLaws.{changed_ill, changed_other_ill, changed_over, changed_other_over, changed_fine}
use borrow.Author.Rules.{rules}
use Rattle.panel_streams.proofs.changes.check.Goals.{then-not-well_made-via-then-not-well_made}
use Rattle.panel_streams.proofs.changes.check.Goals.{then-not-well_made-via-else-not-well_made+then-not-well_made-2}
use Rattle.panel_streams.proofs.changes.check.Goals.{then-streams-stream-via-then-streams-stream}
use Rattle.panel_streams.proofs.changes.check.Goals.{then-streams-stream-via-else-streams-stream+then-streams-other}
use Rattle.panel_streams.proofs.changes.check.Goals as goal

pub returns-then-not-well_made : goal.returns-then-not-well_made
returns-then-not-well_made c =
    elim c.then-not-well_made.branch [
      | then-not-well_made-via-then-not-well_made w ↦ search changed_ill
      | then-not-well_made-via-else-not-well_made+then-not-well_made-2 w ↦ search changed_other_ill
    ]

pub returns-then-streams-stream : goal.returns-then-streams-stream
returns-then-streams-stream c =
    elim c.then-streams-stream.branch [
      | then-streams-stream-via-then-streams-stream w ↦ search changed_over
      | then-streams-stream-via-else-streams-stream+then-streams-other w ↦ search changed_other_over
    ]

pub returns : goal.returns
returns c = search changed_fine
