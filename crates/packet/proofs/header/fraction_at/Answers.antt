-- `fraction_at` meets its promise: the sum is the definition's, part by part.
use Rattle.packet.specs.Parts.{fraction_at}
use borrow.Author.Rules.{rules}
use Rattle.packet.proofs.header.fraction_at.Goals as goal

pub returns : goal.returns
unfolding fraction_at
returns c = (rw (c.when_so.ensures.0, c.has_seconds.ensures, c.seconds_at.ensures.0), search rules)
