-- `copy_part` meets its promise: both parts are lent to `copy_words`, and `copied_part` says what that leaves.
use Rattle.words.proofs.CopyLaws.{copied_part}
use borrow.Author.Rules.{rules}
use Rattle.words.proofs.inner.copies.copy_part.Goals as goal

pub returns : goal.returns
returns c =
    copied_part c.args.dst.now c.args.src.now c.copy_words.new.dst c.args.d c.args.s c.args.n
    c.requires.0 c.requires.1 c.copy_words.ensures
