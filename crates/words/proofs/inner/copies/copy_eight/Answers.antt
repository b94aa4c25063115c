-- `copy_eight` meets its promise: the second piece stands right behind the first.
use Rattle.words.proofs.CopyLaws.{copied_then}
use borrow.Author.Rules.{rules}
use Rattle.words.proofs.inner.copies.copy_eight.Goals as goal

pub returns : goal.returns
returns c = search (copied_then 4 4)
