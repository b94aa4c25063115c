-- `required` meets its promise: the sum is the definition's, part by part.
use Rattle.packet.specs.Parts.{required_of}
use borrow.Author.Rules.{rules}
use Rattle.packet.proofs.header.required.Goals as goal

pub returns : goal.returns
unfolding required_of
returns c =
    let t = c in (
      rw (
        c.when_so-2.ensures.0,
        c.type_of.ensures,
        t.when_so.ensures.0,
        t.has_trailer.ensures,
        t.body_at.ensures.0,
      ),
      search rules,
    )
