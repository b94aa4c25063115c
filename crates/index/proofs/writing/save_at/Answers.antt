-- `save_at` meets its promise: the words from the offset on are lent to saving.
use Rattle.words.proofs.Kit.{rules}
use Rattle.index.proofs.EnterLaws.{saved_lent}
use Rattle.index.proofs.writing.save_at.Goals as goal

pub returns : goal.returns
returns c = search saved_lent
