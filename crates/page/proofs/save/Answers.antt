-- `save` meets its promise: what the length refuses is refused, a short buffer is ROOM, and else the page is written.
use Rattle.page.proofs.SaveLaws.{save_refused, save_well, save_length, save_short, save_made}
use borrow.Author.Rules.{rules}
use Rattle.std.proofs.lemmas.Result.{err_from_is_err_and}
use Rattle.page.proofs.save.Goals as goal

pub returns-in_err-length : goal.returns-in_err-length
returns-in_err-length c =
    let p = err_from_is_err_and c.from_residual.result c.from_residual.ensures.1 in
    rw (p.1, p.2) (save_refused _ _ _ c.in_err-length.ensures)

pub returns-then-page-length : goal.returns-then-page-length
returns-then-page-length c = search (save_short, c.in_ok-length.ensures)

pub write_page-requires : goal.write_page-requires
write_page-requires c = search (save_well, save_length, c.in_ok-length.ensures)

pub returns : goal.returns
returns c = search (save_made, c.in_ok-length.ensures)
