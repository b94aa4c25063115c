-- `page_words` meets its promise. After s streams the length is the offset of body s (`Summing`); its laws carry the turn.
use Rattle.words.proofs.Kit.{◌-◌, rules}
use Rattle.page.proofs.SaveLaws.{Summing, held_inside, summing_start, summing_turn, summing_small, summing_end, summing_within}
use Rattle.page.proofs.bodies.page_words.Goals as goal

pub loop-s-init : goal.loop-s-init
loop-s-init c = search summing_start

pub bounds-table-at : goal.bounds-table-at
bounds-table-at c = search held_inside

pub overflow_add-length : goal.overflow_add-length
overflow_add-length c = search summing_small

pub loop-s-preserved : goal.loop-s-preserved
loop-s-preserved c = search summing_turn

pub returns : goal.returns
returns c = search (summing_end, summing_within)
