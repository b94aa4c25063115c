-- `length_in` meets its promise: it is the second word of the pair.
use Rattle.page.proofs.LayoutLaws.{length_read}
use borrow.Author.Rules.{rules}
use Rattle.page.proofs.contents.length_in.Goals as goal

pub returns : goal.returns
returns c = search (rules, length_read)
