-- `reserved_of` meets its promise: each return is a row of the definition, by the type.
use Rattle.words.proofs.Cases.{cases}
use Rattle.packet.specs.Header.{reserved_of}
use Rattle.packet.proofs.header.reserved_of.Goals as goal

pub returns-then-type_of-lt4 : goal.returns-then-type_of-lt4
unfolding reserved_of
returns-then-type_of-lt4 c = search (cases, ← c.type_of.ensures)

pub returns-else-type_of-lt4 : goal.returns-else-type_of-lt4
unfolding reserved_of
returns-else-type_of-lt4 c = search (cases, ← c.type_of.ensures)
