-- `pairs_good` meets its promise. While the pairs passed are right, the next body begins where the lengths say (`Paired`); its laws carry the turn.
use Rattle.words.proofs.Kit.{◌-◌, rules}
use Rattle.page.proofs.GoodLaws.{Paired, paired_start, paired_fails, paired_turn, paired_end}
use Rattle.page.proofs.good.pairs_good.Given as goal

abbrev pub invariant-loop-s : goal.invariant-loop-s
invariant-loop-s l = Paired l.page l.n l.s l.at
