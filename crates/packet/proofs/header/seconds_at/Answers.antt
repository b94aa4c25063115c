-- `seconds_at` meets its promise: the sum is the definition's, part by part.
use Rattle.packet.specs.Parts.{seconds_at}
use borrow.Author.Rules.{rules}
use Rattle.packet.proofs.header.seconds_at.Goals as goal

pub returns : goal.returns
unfolding seconds_at
returns c = (rw (c.when_so.ensures.0, c.has_class.ensures, c.class_at.ensures.0), search rules)
