-- `put_back` meets its promise: a page that is not well made is PAGE, a short table is ROOM, and else the records are written behind S.
use Rattle.page.proofs.PutLaws.{back_ill, back_well, back_room, back_short, back_made}
use borrow.Author.Rules.{rules}
use Rattle.page.proofs.put_back.Goals as goal

pub returns-then-not-page_ok : goal.returns-then-not-page_ok
returns-then-not-page_ok c = search back_ill

pub returns-then-table-length : goal.returns-then-table-length
returns-then-table-length c = search back_short

pub write_table-requires : goal.write_table-requires
write_table-requires c = search (back_well, back_room)

pub returns : goal.returns
returns c = search back_made
