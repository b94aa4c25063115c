-- `body_in` meets its promise: the part from the offset on, of the length, is the body.
use Rattle.page.proofs.PutLaws.{load_small, load_inside, load_body}
use borrow.Author.Rules.{rules}
use Rattle.page.proofs.bodies.body_in.Goals as goal

pub offset_in-at-requires : goal.offset_in-at-requires
offset_in-at-requires c = search load_small

pub length_in-requires : goal.length_in-requires
length_in-requires c = search load_small

pub slice_bounds-result-end : goal.slice_bounds-result-end
slice_bounds-result-end c = search load_inside

pub returns : goal.returns
returns c = search load_body
