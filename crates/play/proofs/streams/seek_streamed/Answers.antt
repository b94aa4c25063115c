-- `seek_streamed` meets its promise: the identifier is looked for where there is one.
use borrow.Author.Rules.{rules}
use Rattle.play.proofs.streams.seek_streamed.Goals as goal

pub returns-then-streamed : goal.returns-then-streamed
returns-then-streamed c = rw c.if-streamed.true c.seek_stream.ensures

pub returns : goal.returns
returns c = rw c.if-streamed.false
