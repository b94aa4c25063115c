-- `jump_back` meets its promise: a boundary that does not stand in the words is PAGE, and else the answer is that of putting the page back.
use Rattle.words.proofs.Kit.{rules}
use Rattle.std.proofs.lemmas.Result.{err_from_is_err_and}
use Rattle.index_jump.proofs.PageLaws.{entry_whole}
use Rattle.index_jump.proofs.LandLaws.{entry_there, entry_low}
use Rattle.index_jump.proofs.BoundaryLaws.{back_early, back_far, back_made, back_refused}
use Rattle.index_jump.proofs.copies.jump_back.Goals as goal

pub entry_place-place-requires : goal.entry_place-place-requires
entry_place-place-requires c = search (entry_whole, entry_low)

pub returns-then-place-first : goal.returns-then-place-first
returns-then-place-first c = search back_early

pub returns-then-given-place : goal.returns-then-given-place
returns-then-given-place c = search back_far

pub page_in-requires : goal.page_in-requires
page_in-requires c = search entry_there

pub returns-in_err-length : goal.returns-in_err-length
returns-in_err-length c =
    let p = err_from_is_err_and c.from_residual.result c.from_residual.ensures.1 in
    rw (p.1, p.2) (search (back_refused, c.in_err-length.ensures))

pub returns : goal.returns
returns c = search (back_made, c.in_ok-length.ensures)
