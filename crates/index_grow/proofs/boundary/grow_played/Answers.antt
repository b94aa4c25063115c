-- `grow_played` meets its promise: what ends the recording is refused, then an entry is asked for.
use Rattle.words.proofs.Kit.{rules}
use Rattle.index_grow.proofs.PacketLaws.{next_small}
use Rattle.index_grow.proofs.GrowLaws.{grown_unread, step_ready, grown_full, grown_entry}
use Rattle.index_grow.proofs.boundary.grow_played.Goals as goal

pub returns-in_default : goal.returns-in_default
returns-in_default c = search grown_unread

pub take_entry-requires : goal.take_entry-requires
take_entry-requires c = search (step_ready, next_small)

pub returns-then-not-take_entry : goal.returns-then-not-take_entry
returns-then-not-take_entry c = search grown_full

pub returns : goal.returns
returns c = search grown_entry
