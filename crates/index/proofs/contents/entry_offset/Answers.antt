-- `entry_offset` meets its promise: it is the entry's third word.
use Rattle.words.proofs.Kit.{rules}
use Rattle.index.proofs.ReadLaws.{word_read}
use Rattle.index.proofs.contents.entry_offset.Goals as goal

pub returns : goal.returns
returns c = (search word_read, search rules)
