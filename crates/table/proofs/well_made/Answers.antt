-- `well_made` meets its promise: a test that fails ends it, and the last answers.
use Rattle.table.proofs.WellLaws.{well_short, well_unlisted, well_all, listed_few, layout_there}
use borrow.Author.Rules.{rules}
use Rattle.table.proofs.well_made.Goals as goal

pub returns-then-table-layout_words : goal.returns-then-table-layout_words
returns-then-table-layout_words c = search well_short

pub returns-then-not-list_good : goal.returns-then-not-list_good
returns-then-not-list_good c = search well_unlisted

pub records_good-requires : goal.records_good-requires
records_good-requires c = search (rules, listed_few, layout_there)

pub returns : goal.returns
returns c = search well_all
