-- `entry_undeclared` meets its promise: the numbers are those of the header.
use Rattle.play.proofs.entries.entry_undeclared.Goals as goal

pub returns : goal.returns
returns c = rw (c.from.ensures, c.size_of.ensures.0, c.when_so.ensures.0, c.has_stream.ensures)
