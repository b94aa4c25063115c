-- `has_trailer` meets its promise: each return is a row of the definition, by the type.
use Rattle.words.proofs.Cases.{cases}
use Rattle.packet.specs.Header.{trailed}
use Rattle.packet.proofs.header.has_trailer.Goals as goal

pub returns-then-type_of-lt4 : goal.returns-then-type_of-lt4
unfolding trailed
returns-then-type_of-lt4 c = search (cases, ← c.type_of.ensures)

pub returns-else-type_of-lt4 : goal.returns-else-type_of-lt4
unfolding trailed
returns-else-type_of-lt4 c = search (cases, ← c.type_of.ensures)
