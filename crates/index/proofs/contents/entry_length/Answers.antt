-- `entry_length` meets its promise: it is the entry's fourth word.
use Rattle.words.proofs.Kit.{rules}
use Rattle.index.proofs.ReadLaws.{word_read}
use Rattle.index.proofs.contents.entry_length.Goals as goal

pub returns : goal.returns
returns c = (search word_read, search rules)
