-- `copy_one` meets its promise: a word stored is a part put.
use Rattle.words.proofs.CopyLaws.{copied_one}
use borrow.Author.Rules.{rules}
use Rattle.words.proofs.inner.copies.copy_one.Goals as goal

pub returns : goal.returns
returns c = search copied_one
