-- `page_in` meets its promise: the page that the entry's offset and length give, which lies inside the index.
use Rattle.words.proofs.Kit.{rules}
use Rattle.index_jump.proofs.PageLaws.{entry_whole, entry_below, page_inside, page_lent}
use Rattle.index_jump.proofs.landing.page_in.Goals as goal

pub entry_offset-at-requires : goal.entry_offset-at-requires
entry_offset-at-requires c = search (entry_whole, entry_below)

pub entry_length-requires : goal.entry_length-requires
entry_length-requires c = search (entry_whole, entry_below)

pub slice_bounds-result-end : goal.slice_bounds-result-end
slice_bounds-result-end c = search page_inside

pub returns : goal.returns
returns c = search page_lent
