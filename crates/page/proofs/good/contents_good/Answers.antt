-- `contents_good` meets its promise: each return is a row of the definition.
use Rattle.page.proofs.GoodLaws.{contents_many, contents_short, contents_other, contents_all}
use borrow.Author.Rules.{rules}
use Rattle.page.proofs.good.contents_good.Goals as goal

pub returns-then-n-gt32 : goal.returns-then-n-gt32
returns-then-n-gt32 c = search contents_many

pub returns-then-page-contents_words : goal.returns-then-page-contents_words
returns-then-page-contents_words c = search contents_short

pub returns-then-word_at-page : goal.returns-then-word_at-page
returns-then-word_at-page c = search contents_other

pub returns : goal.returns
returns c = search contents_all
