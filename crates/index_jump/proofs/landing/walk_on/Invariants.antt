-- `walk_on` meets its promise. The invariant `Onto` says that the packets that are left give what all of them give; its laws carry the turn.
use Rattle.words.proofs.Kit.{◌-◌, rules}
use Rattle.index_jump.proofs.WalkLaws.{Onto, onto_start, onto_end, onto_some, onto_room, onto_short, onto_turn, onto_less}
use Rattle.index_jump.proofs.landing.walk_on.Given as goal

abbrev pub invariant-loop-i : goal.invariant-loop-i
invariant-loop-i l = Onto l.n l.given l.from l.initial.table l.initial.entries l.table l.entries l.at l.i

abbrev pub decreases-loop-i : goal.decreases-loop-i
decreases-loop-i l = l.n - l.i
