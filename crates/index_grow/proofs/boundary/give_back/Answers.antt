-- `give_back` meets its promise: the copy is written over the table's layout where the packet was taken in.
use Rattle.words.proofs.Kit.{rules}
use Rattle.index_grow.proofs.CopyLaws.{given_back_lem}
use Rattle.index_grow.proofs.boundary.give_back.Goals as goal

pub returns-in-Ok : goal.returns-in-Ok
returns-in-Ok c = search given_back_lem
