-- `write_streams` meets its promise. The pairs and the bodies written so far are laid one behind the other (`Saving`); its laws carry the turn.
use Rattle.words.proofs.Kit.{◌-◌, arith, rules}
use Rattle.table.proofs.WellLaws.{well_whole}
use Rattle.page.proofs.SaveLaws.{Saving, saving_start, saving_turn, saving_length, saving_end}
use Rattle.page.proofs.SaveLaws.{record_long, record_held, body_placed, pair_asks}
use Rattle.page.proofs.saving.write_streams.Goals as goal

pub loop-s-init : goal.loop-s-init
loop-s-init c = search saving_start

pub record_in-requires : goal.record_in-requires
record_in-requires c = omega (arith, well_whole)

pub write_body-past-requires : goal.write_body-past-requires
write_body-past-requires c = search (record_long, record_held, body_placed)

pub write_pair-requires : goal.write_pair-requires
write_pair-requires c =
    pair_asks _ _ c.requires.0 c.requires.1 _ _ _ _ _ c.loop-s.invariant c.streams-n.ensures.0 (omega arith)
    c.record_in.ensures _ _ c.write_body-past.ensures

pub loop-s-preserved : goal.loop-s-preserved
loop-s-preserved c = search saving_turn

pub shape_of-page : goal.shape_of-page
shape_of-page c = search saving_length

pub returns : goal.returns
returns c = search saving_end
