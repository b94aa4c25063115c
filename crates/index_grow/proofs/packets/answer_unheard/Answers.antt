-- `answer_unheard` meets its promise: each return is a row of the definition.
use Rattle.words.proofs.Kit.{rules}
use Rattle.index_grow.proofs.PacketLaws.{unheard_on, unheard_off}
use Rattle.index_grow.proofs.packets.answer_unheard.Goals as goal

pub returns-in_default : goal.returns-in_default
returns-in_default c = search unheard_off

pub returns : goal.returns
returns c = search unheard_on
