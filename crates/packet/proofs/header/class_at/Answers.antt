-- `class_at` meets its promise: the sum is the definition's, part by part.
use Rattle.packet.specs.Parts.{class_at}
use borrow.Author.Rules.{rules}
use Rattle.packet.proofs.header.class_at.Goals as goal

pub returns : goal.returns
unfolding class_at
returns c = (rw (c.when_so.ensures.0, c.has_stream.ensures), search rules)
