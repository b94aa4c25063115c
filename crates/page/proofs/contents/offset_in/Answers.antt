-- `offset_in` meets its promise: it is the first word of the pair.
use Rattle.page.proofs.LayoutLaws.{offset_read}
use borrow.Author.Rules.{rules}
use Rattle.page.proofs.contents.offset_in.Goals as goal

pub returns : goal.returns
returns c = search (rules, offset_read)
