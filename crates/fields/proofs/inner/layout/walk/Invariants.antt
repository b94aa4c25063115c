-- `walk` meets its promise. The invariant `Striding` says what is left: the fields of the bits that are left, from the place reached on, decide; its laws carry
-- the turn.
use Rattle.fields.proofs.WalkLaws.{Striding}
use Rattle.fields.proofs.inner.layout.walk.Given as goal

abbrev pub invariant-loop-bit : goal.invariant-loop-bit
invariant-loop-bit l = Striding l.bits l.first l.past l.at l.body l.bit l.place
