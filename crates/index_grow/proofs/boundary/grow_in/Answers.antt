-- `grow_in` meets its promise: the table's layout is copied first.
use Rattle.words.proofs.Kit.{rules}
use Rattle.index_grow.proofs.CopyLaws.{copy_fits, copy_there, copy_inside, copy_is}
use Rattle.index_grow.proofs.boundary.grow_in.Goals as goal

pub copy_part-requires : goal.copy_part-requires
copy_part-requires c = let k = c.streams.ensures in
    let n = c.layout_words-size.ensures in
    (copy_fits _ _ c.args.table.now k n (search) c.args.space.now (search), copy_there _ _ c.args.table.now k n (search))

pub slice_bounds-grow_given-end : goal.slice_bounds-grow_given-end
slice_bounds-grow_given-end c = copy_inside _ _ c.args.table.now c.streams.ensures c.layout_words-size.ensures (search) c.args.space.now _ (search)
    c.copy_part.ensures

pub grow_given-requires : goal.grow_given-requires
grow_given-requires c = (
  search rules,
  search rules,
  copy_is _ _ c.args.table.now c.streams.ensures c.layout_words-size.ensures (search) c.args.space.now _ (search)
      c.copy_part.ensures,
)
