-- `seek_stream` meets its promise. The invariant `Seeking` says that none of the identifiers passed is the one looked for; its laws carry the turn.
use Rattle.play.proofs.StreamLaws.{Seeking}
use Rattle.play.proofs.streams.seek_stream.Given as goal

abbrev pub invariant-loop-s : goal.invariant-loop-s
invariant-loop-s l = Seeking l.table l.identifier l.s
