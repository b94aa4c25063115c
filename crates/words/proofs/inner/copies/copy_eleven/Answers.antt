-- `copy_eleven` meets its promise: each piece stands right behind the one before.
use Rattle.words.proofs.CopyLaws.{copied_eleven}
use borrow.Author.Rules.{rules}
use Rattle.words.proofs.inner.copies.copy_eleven.Goals as goal

pub returns : goal.returns
returns c = search copied_eleven
