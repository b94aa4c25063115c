-- `lay_trailer` meets its promise.
use Rattle.packet_write.specs.AsWords.{parts_in}
use Rattle.packet_write.proofs.LayLaws.{trailer_room, trailer_laid}
use borrow.Author.Rules.{rules}
use Rattle.packet_write.proofs.laying.lay_trailer.Goals as goal

pub bounds-q-2 : goal.bounds-q-2
unfolding parts_in
bounds-q-2 c = search rules

pub bounds-q-14 : goal.bounds-q-14
unfolding parts_in
bounds-q-14 c = search rules

pub lay_one-requires : goal.lay_one-requires
unfolding parts_in
lay_one-requires c = search trailer_room

pub shape_of-out : goal.shape_of-out
unfolding parts_in
shape_of-out c = search rules

pub returns : goal.returns
unfolding parts_in
returns c = search trailer_laid
