-- `lay_head` meets its promise: the header, and then the identifier where the first call ended.
use Rattle.packet_write.specs.AsWords.{parts_in}
use Rattle.packet_write.proofs.LayLaws.{head_first, head_second, head_laid}
use borrow.Author.Rules.{rules}
use Rattle.packet_write.proofs.laying.lay_head.Goals as goal

pub lay_one-a-requires : goal.lay_one-a-requires
unfolding parts_in
lay_one-a-requires c = search head_first

pub has_stream-requires : goal.has_stream-requires
unfolding parts_in
has_stream-requires c = search rules

pub bounds-q-7 : goal.bounds-q-7
unfolding parts_in
bounds-q-7 c = search rules

pub lay_one-requires : goal.lay_one-requires
unfolding parts_in
lay_one-requires c = search head_second

pub shape_of-out : goal.shape_of-out
unfolding parts_in
shape_of-out c = search rules

pub returns : goal.returns
unfolding parts_in
returns c = search head_laid
