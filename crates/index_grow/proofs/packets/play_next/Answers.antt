-- `play_next` meets its promise: where no word is left it is EMPTY, and else a step.
use Rattle.words.proofs.Kit.{rules}
use Rattle.index_grow.proofs.PacketLaws.{none_stepped}
use Rattle.index_grow.proofs.packets.play_next.Goals as goal

pub returns-then-given-eq0 : goal.returns-then-given-eq0
returns-then-given-eq0 c = search none_stepped
