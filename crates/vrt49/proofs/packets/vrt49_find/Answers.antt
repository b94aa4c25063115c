-- `vrt49_find` meets its promise: the place, or three zeros.
use Rattle.words.proofs.Kit.{refl, sym, ap}
use Rattle.words.specs.Outcome.{accepted}
use Rattle.vrt49.specs.Packets.{found_values}
use Rattle.vrt49.proofs.AnswerLaws.{tells_values}
use Rattle.vrt49.proofs.packets.vrt49_find.Goals as goal

pub returns-in-Some : goal.returns-in-Some
returns-in-Some c = tells_values found_values _ _ _ _ (ap accepted (sym c.in-Some.ensures)) refl

pub returns-in-None : goal.returns-in-None
returns-in-None c = tells_values found_values _ _ _ _ (ap accepted (sym c.in-None.ensures)) refl
