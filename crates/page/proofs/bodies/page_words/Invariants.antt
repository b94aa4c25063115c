-- `page_words` meets its promise. After s streams the length is the offset of body s (`Summing`); its laws carry the turn.
use Rattle.words.proofs.Kit.{◌-◌, rules}
use Rattle.page.proofs.SaveLaws.{Summing, held_inside, summing_start, summing_turn, summing_small, summing_end, summing_within}
use Rattle.page.proofs.bodies.page_words.Given as goal

abbrev pub invariant-loop-s : goal.invariant-loop-s
invariant-loop-s l = Summing l.table l.n l.s l.length
