-- `broken` meets its promise. The invariant `Seeking` says what is left: the highest broken field is among the bits that are left, and the walk stands at the
-- next of them; its laws carry the turn.
use Rattle.fields.proofs.BrokenLaws.{Seeking}
use Rattle.fields.proofs.inner.highest.broken.Given as goal

abbrev pub invariant-loop-bit : goal.invariant-loop-bit
invariant-loop-bit l = Seeking l.body l.bit-iterator.0 l.at
