-- `start` meets its promise: a bad list and a short table are refused, and else the records are written behind word 0.
use Rattle.words.proofs.Kit.{◌∙◌, rules}
use lib.ListN.{length-set}
use Rattle.table.proofs.WellLaws.{layout_there}
use Rattle.table.proofs.StartLaws.{start_unlisted, start_unchosen, start_few, start_small, start_many, start_room, start_made}
use Rattle.table.proofs.start.Goals as goal

pub returns-then-not-list_good : goal.returns-then-not-list_good
returns-then-not-list_good c = search start_unlisted

pub returns-then-not-choices_good : goal.returns-then-not-choices_good
returns-then-not-choices_good c = search start_unchosen

pub layout_words-length-requires : goal.layout_words-length-requires
layout_words-length-requires c = search start_small

pub returns-then-table-length : goal.returns-then-table-length
returns-then-table-length c = search start_room

pub overflow_cast-table : goal.overflow_cast-table
overflow_cast-table c = search (rules, start_small)

pub write_records-requires : goal.write_records-requires
write_records-requires c = (search start_many, search start_few, simp length-set (search layout_there))

pub shape_of-table : goal.shape_of-table
shape_of-table c = c.write_records.auto.table ∙ simp length-set

pub returns : goal.returns
returns c = search start_made
