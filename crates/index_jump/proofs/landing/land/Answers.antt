-- `land` meets its promise: a page that is not well made, a boundary that does not stand in the words, and packets that are not there are PAGE; and else the
-- packets are played on the page's table at the front.
use Rattle.words.proofs.Kit.{rules}
use Rattle.std.proofs.lemmas.Result.{err_from_is_err_and}
use Rattle.index_jump.proofs.PageLaws.{entry_whole}
use Rattle.index_jump.proofs.LandLaws.{entry_there, entry_low, land_unput, land_room, land_well, land_early, land_far, land_short, land_small, land_made}
use Rattle.index_jump.proofs.landing.land.Goals as goal

pub page_in-requires : goal.page_in-requires
page_in-requires c = search entry_there

pub returns-in_err-length : goal.returns-in_err-length
returns-in_err-length c =
    let p = err_from_is_err_and c.from_residual.result c.from_residual.ensures.1 in
    rw (p.1, p.2) (search (land_unput, c.in_err-length.ensures))

pub entry_place-place-requires : goal.entry_place-place-requires
entry_place-place-requires c = search (entry_whole, entry_low)

pub returns-then-place-first : goal.returns-then-place-first
returns-then-place-first c = search (land_early, c.in_ok-length.ensures)

pub returns-then-given-place : goal.returns-then-given-place
returns-then-given-place c = search (land_far, c.in_ok-length.ensures)

pub slice_bounds-walk-end : goal.slice_bounds-walk-end
slice_bounds-walk-end c = search (land_room, c.in_ok-length.ensures)

pub walk-requires : goal.walk-requires
walk-requires c = search (land_well, c.in_ok-length.ensures)

pub returns-in_err-at : goal.returns-in_err-at
returns-in_err-at c =
    let p = err_from_is_err_and c.from_residual-in_err-at.result c.from_residual-in_err-at.ensures.1 in
    rw (p.1, p.2) (search (land_short, c.in_ok-length.ensures, c.in_err-at.ensures))

pub overflow_add-result : goal.overflow_add-result
overflow_add-result c =
    search (land_small, c.page_in.ensures, c.in_ok-length.ensures, c.entry_place-place.ensures, c.in_ok-at.ensures)

pub returns : goal.returns
returns c =
    search (land_made, c.page_in.ensures, c.in_ok-length.ensures, c.entry_place-place.ensures, c.in_ok-at.ensures)
