-- `grow_given` meets its promise: growing answers of the copy as of the table.
use Rattle.words.proofs.Kit.{rules}
use Rattle.index_grow.proofs.CopyLaws.{copy_ready, back_fits, copied}
use Rattle.index_grow.proofs.boundary.grow_given.Goals as goal

pub grow_played-answer-requires : goal.grow_played-answer-requires
grow_played-answer-requires c = search (rules, copy_ready)

pub give_back-requires : goal.give_back-requires
give_back-requires c = search (back_fits, c.grow_played-answer.ensures)

pub returns : goal.returns
returns c = search (copied, c.grow_played-answer.ensures)
