-- `copy_own` meets its promise: a word is stored, and the record copied behind it.
use Rattle.words.proofs.Kit.{◌∙◌, rules}
use lib.ListN.{length-set}
use Rattle.panel_streams.proofs.RecordLaws.{own_inside, own_room, own_made}
use Rattle.panel_streams.proofs.records.copy_own.Goals as goal

pub returns-then-out-n : goal.returns-then-out-n
returns-then-out-n c = search own_room

pub copy_part-requires : goal.copy_part-requires
copy_part-requires c = (search own_inside, search rules)

pub shape_of-out : goal.shape_of-out
shape_of-out c = c.copy_part.auto.dst ∙ simp length-set

pub returns : goal.returns
returns c = search own_made
