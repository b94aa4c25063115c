-- `hear_context` meets its promise: the stream's record and the packet's body are lent, and the packet is counted and its fields are held there.
use Rattle.words.proofs.Kit.{arith, rules}
use Rattle.table.proofs.WellLaws.{well_few}
use Rattle.play.proofs.StreamLaws.{headed_parts}
use Rattle.play.proofs.PlayLaws.{lent_inside, lent_length, lent_good, body_starts, body_ends, body_good, heard_context}
use Rattle.play.proofs.streams.hear_context.Goals as goal

pub record_at-at-requires : goal.record_at-at-requires
record_at-at-requires c = omega (arith, well_few)

pub body_end-to-requires : goal.body_end-to-requires
body_end-to-requires c = search headed_parts

pub slice_bounds-hear_context-end : goal.slice_bounds-hear_context-end
slice_bounds-hear_context-end c = search lent_inside

pub slice_bounds-hear_context-start-2 : goal.slice_bounds-hear_context-start-2
slice_bounds-hear_context-start-2 c = search body_starts

pub slice_bounds-hear_context-end-2 : goal.slice_bounds-hear_context-end-2
slice_bounds-hear_context-end-2 c = search body_ends

pub hear_context-requires : goal.hear_context-requires
hear_context-requires c = (search lent_length, search lent_good, search rules, search body_good)

pub returns : goal.returns
returns c = search heard_context
