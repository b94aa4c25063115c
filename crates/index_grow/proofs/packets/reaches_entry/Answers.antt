-- `reaches_entry` meets its promise: it is the test of the definition.
use Rattle.words.proofs.Kit.{rules}
use Rattle.index_grow.proofs.ReadyLaws.{ready_whole}
use Rattle.index_grow.proofs.GrowLaws.{reaches_is}
use Rattle.index_grow.proofs.packets.reaches_entry.Goals as goal

pub packets_taken-requires : goal.packets_taken-requires
packets_taken-requires c = search ready_whole

pub returns : goal.returns
returns c = search reaches_is
