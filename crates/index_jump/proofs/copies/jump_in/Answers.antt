-- `jump_in` meets its promise: what the landing refuses is refused, and then the landing's layout is copied where it fits.
use Rattle.words.proofs.Kit.{rules}
use Rattle.std.proofs.lemmas.Result.{err_from_is_err_and}
use Rattle.index_jump.proofs.JumpLaws.{landed_refused, jump_short, jump_inside, jump_made}
use Rattle.index_jump.proofs.copies.jump_in.Goals as goal

pub returns-in_err-landed : goal.returns-in_err-landed
returns-in_err-landed c =
    let p = err_from_is_err_and c.from_residual.result c.from_residual.ensures.1 in
    rw (p.1, p.2) (search (landed_refused, c.in_err-landed.ensures))

pub returns-then-table-landed : goal.returns-then-table-landed
returns-then-table-landed c = search (jump_short, c.in_ok-landed.ensures)

pub copy_part-requires : goal.copy_part-requires
copy_part-requires c = search (rules, jump_inside c.args.space.now, c.in_ok-landed.ensures)

pub returns : goal.returns
returns c = search (jump_made, c.in_ok-landed.ensures)
