-- `start_index` meets its promise: an index too short for the contents is refused behind the table, and else the first entry is made.
use Rattle.words.proofs.Kit.{rules}
use Rattle.std.proofs.lemmas.Result.{err_from_is_err_and}
use Rattle.index.proofs.EnterLaws.{start_short, start_ill, start_refused, start_whole, start_small, start_made}
use Rattle.index.proofs.start_index.Goals as goal

pub returns-then-well_made : goal.returns-then-well_made
returns-then-well_made c = search start_short

pub returns-then-index-lt-CONTENTS_WORDS : goal.returns-then-index-lt-CONTENTS_WORDS
returns-then-index-lt-CONTENTS_WORDS c = search start_ill

pub returns-in_err-size : goal.returns-in_err-size
returns-in_err-size c =
    let p = err_from_is_err_and c.from_residual.result c.from_residual.ensures.1 in
    rw (p.1, p.2) (start_refused _ _ _ _ c.in_err-size.ensures)

pub write_reached-requires : goal.write_reached-requires
write_reached-requires c = search (rules, start_whole, c.in_ok-size.ensures)

pub overflow_add-result : goal.overflow_add-result
overflow_add-result c = search (start_small, c.in_ok-size.ensures)

pub returns : goal.returns
returns c = search (start_made, c.in_ok-size.ensures)
