-- `put_record` meets its promise: the record of the body is copied to its place.
use Rattle.page.proofs.PutLaws.{load_small, load_asks, put_record}
use borrow.Author.Rules.{rules}
use Rattle.page.proofs.putting.put_record.Goals as goal

pub fill_record-requires : goal.fill_record-requires
fill_record-requires c = (search rules, search load_asks)

pub record_at-at-requires : goal.record_at-at-requires
record_at-at-requires c = search load_small

pub returns : goal.returns
returns c = search put_record
