-- `copy_record` meets its promise: the held words are a part of the record, none where the field is absent.
use Rattle.record.proofs.HeldWordsLaws.{held_most}
use Rattle.panel.proofs.ReadingLaws.{copy_room, copy_made}
use borrow.Author.Rules.{rules}
use Rattle.panel.proofs.records.copy_record.Goals as goal

pub returns-then-out-n : goal.returns-then-out-n
returns-then-out-n c = search copy_room

pub copy_part-requires : goal.copy_part-requires
copy_part-requires c = (search rules, search held_most)

pub returns : goal.returns
returns c = search copy_made
