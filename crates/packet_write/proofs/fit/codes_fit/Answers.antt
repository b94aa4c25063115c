-- `codes_fit` meets its promise.
use Rattle.packet_write.specs.Write.{codes_fit}
use borrow.Author.Rules.{rules}
use Rattle.packet_write.proofs.fit.codes_fit.Goals as goal

pub returns : goal.returns
unfolding codes_fit
returns c = rw (c.both_of-2.ensures, c.both_of.ensures)
