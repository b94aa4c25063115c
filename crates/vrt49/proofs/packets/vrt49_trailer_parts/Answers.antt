-- `vrt49_trailer_parts` meets its promise: the parts, the flag as a word.
use Rattle.words.proofs.Kit.{sym, ap, rules}
use Rattle.words.specs.Outcome.{accepted}
use Rattle.vrt49.specs.Packets.{trailer_values}
use Rattle.vrt49.proofs.AnswerLaws.{tells_values}
use Rattle.vrt49.proofs.packets.vrt49_trailer_parts.Goals as goal

pub returns : goal.returns
returns c =
    tells_values trailer_values _ _ _ _ (ap accepted (sym c.trailer_parts-t.ensures)) (rw (← c.flag.ensures))
