-- `entries_good` meets its promise. While the entries passed are right, the next page begins where the lengths say (`Listed`); its laws carry the turn.
use Rattle.words.proofs.Kit.{◌-◌, rules}
use Rattle.index.proofs.GoodLaws.{Listed, listed_start, listed_fails, listed_turn, listed_end}
use Rattle.index.proofs.good.entries_good.Given as goal

abbrev pub invariant-loop-j : goal.invariant-loop-j
invariant-loop-j l = Listed l.index l.n l.j l.at
