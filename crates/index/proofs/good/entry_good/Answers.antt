-- `entry_good` meets its promise: the two tests are those of the definition.
use Rattle.words.proofs.Kit.{rules}
use Rattle.index.proofs.GoodLaws.{entry_far, entry_near}
use Rattle.index.proofs.good.entry_good.Goals as goal

pub returns-then-entry_place-most_place : goal.returns-then-entry_place-most_place
returns-then-entry_place-most_place c = search entry_near

pub returns-else-entry_place-most_place : goal.returns-else-entry_place-most_place
returns-else-entry_place-most_place c = search entry_far
