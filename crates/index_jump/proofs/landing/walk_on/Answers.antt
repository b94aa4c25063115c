-- `walk_on` meets its promise. The invariant `Onto` says that the packets that are left give what all of them give; its laws carry the turn.
use Rattle.words.proofs.Kit.{◌-◌, rules}
use Rattle.std.proofs.lemmas.Result.{err_from_is_err_and}
use Rattle.index_jump.proofs.WalkLaws.{Onto, onto_start, onto_end, onto_some, onto_room, onto_short, onto_turn, onto_less}
use Rattle.index_jump.proofs.landing.walk_on.Goals as goal

pub loop-i-init : goal.loop-i-init
loop-i-init c = search onto_start

pub walk_run-requires : goal.walk_run-requires
walk_run-requires c = search (rules, onto_some, onto_room)

pub returns-in_err-at : goal.returns-in_err-at
returns-in_err-at c =
    let p = err_from_is_err_and c.from_residual.result c.from_residual.ensures.1 in
    rw (p.1, p.2) (search (onto_short, c.in_err-at.ensures))

pub loop-i-smaller : goal.loop-i-smaller
loop-i-smaller c = search onto_less

pub loop-i-preserved : goal.loop-i-preserved
loop-i-preserved c = search (onto_turn, c.in_ok-at.ensures)

pub returns : goal.returns
returns c = search onto_end
