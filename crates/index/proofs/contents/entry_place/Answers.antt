-- `entry_place` meets its promise: it is the entry's first two words.
use Rattle.words.proofs.Kit.{rules}
use Rattle.index.proofs.ReadLaws.{place_read}
use Rattle.index.proofs.contents.entry_place.Goals as goal

pub returns : goal.returns
returns c = search place_read
