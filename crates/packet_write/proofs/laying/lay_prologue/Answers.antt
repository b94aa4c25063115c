-- `lay_prologue` meets its promise: each piece is laid where the one before it ended.
use Rattle.packet_write.proofs.LayLaws.{prologue_first, prologue_second, prologue_third, prologue_laid}
use borrow.Author.Rules.{rules}
use Rattle.packet_write.proofs.laying.lay_prologue.Goals as goal

pub lay_head-a-requires : goal.lay_head-a-requires
lay_head-a-requires c = (search, search prologue_first)

pub lay_class-b-requires : goal.lay_class-b-requires
lay_class-b-requires c = (search, search, search prologue_second)

pub lay_time-requires : goal.lay_time-requires
lay_time-requires c =
    (search, prologue_third _ _ c.args.pad _ _ _ c.lay_head-a.ensures _ _ c.lay_class-b.ensures c.requires.2)

pub returns : goal.returns
returns c = search prologue_laid
