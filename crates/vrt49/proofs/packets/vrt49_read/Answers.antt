-- `vrt49_read` meets its promise: what reading answers.
use Rattle.words.proofs.Kit.{sym, false}
use Rattle.packet.proofs.ReadLaws.{body_inside, size_small}
use Rattle.packet.proofs.ToldLaws.{told_packet}
use Rattle.vrt49.specs.Packets.{packet_values}
use Rattle.vrt49.proofs.AnswerLaws.{where_refused, where_values}
use Rattle.vrt49.proofs.NumberLaws.{read_fitting}
use Rattle.vrt49.proofs.packets.vrt49_read.Goals as goal

pub number_for-requires : goal.number_for-requires
number_for-requires c = (read_fitting _ _ (sym c.in-Err.ensures)).fits

pub packet_words-requires : goal.packet_words-requires
packet_words-requires c = let e = told_packet _ _ (sym c.in-Ok.ensures) in (size_small false _ _ e, body_inside false _ _ e)

pub returns-in-Err : goal.returns-in-Err
returns-in-Err c = where_refused packet_values _ _ _ _ (sym c.in-Err.ensures) c.number_for.ensures

pub returns-in-Ok : goal.returns-in-Ok
returns-in-Ok c = where_values packet_values _ _ _ _ (sym c.in-Ok.ensures) c.packet_words.ensures
