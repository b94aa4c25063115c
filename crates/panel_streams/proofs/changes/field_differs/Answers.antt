-- `field_differs` meets its promise: unlike numbers of words differ, and else the parts of the two records are compared.
use Rattle.panel_streams.proofs.ChangedLaws.{differs_size, field_fits, field_end, field_offset, field_inside, field_other, differs_words}
use borrow.Author.Rules.{rules}
use Rattle.panel_streams.proofs.changes.field_differs.Goals as goal

pub returns-then-n-m : goal.returns-then-n-m
returns-then-n-m c = search differs_size

pub overflow_add-at : goal.overflow_add-at
overflow_add-at c = search field_fits

pub overflow_add-end : goal.overflow_add-end
overflow_add-end c = search field_end

pub offset_bounds-one-at : goal.offset_bounds-one-at
offset_bounds-one-at c = search field_offset

pub offset_bounds-other-at : goal.offset_bounds-other-at
offset_bounds-other-at c = search field_offset

pub slice_bounds-ne-end : goal.slice_bounds-ne-end
slice_bounds-ne-end c = search field_inside

pub slice_bounds-ne-end-2 : goal.slice_bounds-ne-end-2
slice_bounds-ne-end-2 c = search field_other

pub returns : goal.returns
returns c = search differs_words
