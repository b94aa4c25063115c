-- `entry_heard` meets its promise: the numbers are those of the header.
use borrow.Author.Rules.{rules}
use Rattle.play.proofs.entries.entry_heard.Goals as goal

pub returns : goal.returns
returns c = cc
