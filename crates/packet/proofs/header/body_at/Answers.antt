-- `body_at` meets its promise: the sum is the definition's, part by part.
use Rattle.packet.specs.Parts.{body_at}
use borrow.Author.Rules.{rules}
use Rattle.packet.proofs.header.body_at.Goals as goal

pub returns : goal.returns
unfolding body_at
returns c = (rw (c.when_so.ensures.0, c.has_fraction.ensures, c.fraction_at.ensures.0), search rules)
