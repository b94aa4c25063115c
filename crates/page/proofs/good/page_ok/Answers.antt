-- `page_ok` meets its promise: a test that fails ends it, and the last answers.
use Rattle.page.proofs.GoodLaws.{page_contents_ill, contents_passed, page_few, page_list_ill, page_records}
use borrow.Author.Rules.{rules}
use Rattle.page.proofs.good.page_ok.Goals as goal

pub returns-then-not-contents_good : goal.returns-then-not-contents_good
returns-then-not-contents_good c = search page_contents_ill

pub list_good-requires : goal.list_good-requires
list_good-requires c = search page_few

pub returns-then-not-list_good : goal.returns-then-not-list_good
returns-then-not-list_good c = search page_list_ill

pub records_good-requires : goal.records_good-requires
records_good-requires c = search contents_passed

pub returns : goal.returns
returns c = search page_records
