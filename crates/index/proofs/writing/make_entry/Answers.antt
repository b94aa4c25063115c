-- `make_entry` meets its promise: what saving refuses is refused, and else the entry is written too.
use Rattle.words.proofs.Kit.{rules}
use Rattle.std.proofs.lemmas.Result.{err_from_is_err_and}
use Rattle.index.proofs.EnterLaws.{entered_refused, entered_whole, entered_small, entered_made}
use Rattle.index.proofs.writing.make_entry.Goals as goal

pub returns-in_err-size : goal.returns-in_err-size
returns-in_err-size c =
    let p = err_from_is_err_and c.from_residual.result c.from_residual.ensures.1 in
    rw (p.1, p.2) (entered_refused _ _ _ _ _ _ _ c.in_err-size.ensures)

pub write_entry-requires : goal.write_entry-requires
write_entry-requires c = search (rules, entered_whole, entered_small, c.in_ok-size.ensures)

pub returns : goal.returns
returns c = search (entered_made, c.in_ok-size.ensures, c.write_entry.ensures)
