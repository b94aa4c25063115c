-- `low_kept` meets its promise. The invariant `Walking` says what is left: the fields of the bits that are left, the first of the words that are left, decide;
-- its laws carry the turn.
use Rattle.fields.proofs.WalkLaws.{Walking}
use Rattle.fields.proofs.inner.layout.low_kept.Given as goal

abbrev pub invariant-loop-bit : goal.invariant-loop-bit
invariant-loop-bit l = Walking l.bits l.ws l.bit-iterator.0 l.rest
