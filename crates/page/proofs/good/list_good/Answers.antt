-- `list_good` meets its promise: the identifiers are gathered, and the list of them is tested.
use Rattle.page.proofs.GoodLaws.{list_gathered}
use borrow.Author.Rules.{rules}
use Rattle.page.proofs.good.list_good.Goals as goal

pub returns : goal.returns
returns c = search list_gathered
