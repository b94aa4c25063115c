-- `class_fits` meets its promise.
use Rattle.packet_write.specs.Write.{class_fits}
use borrow.Author.Rules.{rules}
use Rattle.packet_write.proofs.fit.class_fits.Goals as goal

pub returns-then-classed : goal.returns-then-classed
unfolding class_fits
returns-then-classed c = rw (c.both_of-then-classed.ensures, c.both_of.ensures, c.if-classed.true)

pub returns-else-classed : goal.returns-else-classed
unfolding class_fits
returns-else-classed c = rw c.if-classed.false
