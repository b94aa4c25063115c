-- `list_good` meets its promise: each return is a row of the definition.
use Rattle.words.proofs.Cases.{cases}
use Rattle.table.specs.Identifiers.{list_good}
use borrow.Author.Rules.{rules}
use Rattle.table.proofs.identifiers.list_good.Goals as goal

pub returns-then-n-lt1 : goal.returns-then-n-lt1
unfolding list_good
returns-then-n-lt1 c = search cases

pub returns-then-n-gt32 : goal.returns-then-n-gt32
unfolding list_good
returns-then-n-gt32 c = search cases

pub all_apart-requires : goal.all_apart-requires
unfolding list_good
all_apart-requires c = search rules

pub returns : goal.returns
unfolding list_good
returns c = search cases
