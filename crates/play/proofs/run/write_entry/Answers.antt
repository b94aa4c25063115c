-- `write_entry` meets its promise: the entry's place is lent to `store`.
use Rattle.play.proofs.RunLaws.{entry_put}
use borrow.Author.Rules.{rules}
use Rattle.play.proofs.run.write_entry.Goals as goal

pub returns : goal.returns
returns c = search entry_put
