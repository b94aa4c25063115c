-- The first k places are filled.
use Rattle.bitstream.proofs.FilledLaws.{Fills}
use Rattle.payload_unpack.proofs.plain.clear_events.Given as goal

abbrev pub invariant-loop-k : goal.invariant-loop-k
invariant-loop-k l = Fills 0 l.n l.k (λ j. 0) l.initial.events l.events
