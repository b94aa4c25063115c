-- `write_streams` meets its promise. The pairs and the bodies written so far are laid one behind the other (`Saving`); its laws carry the turn.
use Rattle.words.proofs.Kit.{◌-◌, arith, rules}
use Rattle.table.proofs.WellLaws.{well_whole}
use Rattle.page.proofs.SaveLaws.{Saving, saving_start, saving_turn, saving_length, saving_end}
use Rattle.page.proofs.SaveLaws.{record_long, record_held, body_placed, pair_asks}
use Rattle.page.proofs.saving.write_streams.Given as goal

abbrev pub invariant-loop-s : goal.invariant-loop-s
invariant-loop-s l = Saving l.table l.initial.page l.page l.n l.s l.at
