-- `clear_both` meets its promise. The invariant: the first k places of both are filled.
use Rattle.bitstream.proofs.FilledLaws.{Fills}
use Rattle.payload_unpack.proofs.plain.clear_both.Given as goal

abbrev pub invariant-loop-k : goal.invariant-loop-k
invariant-loop-k l = Fills 0 l.n l.k (λ j. 0) l.initial.events l.events × Fills 0 l.n l.k (λ j. 0) l.initial.channels l.channels
