-- `write_entry` meets its promise: the entry's four words are written.
use Rattle.words.proofs.Kit.{rules}
use Rattle.index.proofs.WriteLaws.{entry_written}
use Rattle.index.proofs.writing.write_entry.Goals as goal

pub returns : goal.returns
returns c = search entry_written
