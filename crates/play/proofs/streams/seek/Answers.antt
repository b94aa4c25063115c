-- `seek` meets its promise: the identifier is looked for where the packet has one.
use Rattle.play.proofs.StreamLaws.{sized_parts, sized_whole, sought_in_lem}
use borrow.Author.Rules.{rules}
use Rattle.play.proofs.streams.seek.Goals as goal

pub identifier_of-identifier-requires : goal.identifier_of-identifier-requires
identifier_of-identifier-requires c = search (sized_parts, sized_whole)

pub returns : goal.returns
returns c = search sought_in_lem
