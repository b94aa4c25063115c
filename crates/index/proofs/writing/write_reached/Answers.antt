-- `write_reached` meets its promise: the first four words are written.
use Rattle.words.proofs.Kit.{rules}
use Rattle.index.proofs.WriteLaws.{reached_written}
use Rattle.index.proofs.writing.write_reached.Goals as goal

pub returns : goal.returns
returns c = search reached_written
