-- `check_words` meets its promise: test by test.
use Rattle.words.proofs.Cases.{cases}
use Rattle.vrt49.specs.Packets.{words_checks}
use borrow.Author.Rules.{rules}
use Rattle.vrt49.proofs.packets.check_words.Goals as goal

pub bounds-parts-0 : goal.bounds-parts-0
unfolding words_checks
bounds-parts-0 c = search rules

pub returns-then-parts-gt5 : goal.returns-then-parts-gt5
unfolding words_checks
returns-then-parts-gt5 c = search cases

pub bounds-parts-1 : goal.bounds-parts-1
unfolding words_checks
bounds-parts-1 c = search rules

pub returns-then-parts-gt1 : goal.returns-then-parts-gt1
unfolding words_checks
returns-then-parts-gt1 c = search cases

pub bounds-parts-2 : goal.bounds-parts-2
unfolding words_checks
bounds-parts-2 c = search rules

pub returns-then-parts-gt1-2 : goal.returns-then-parts-gt1-2
unfolding words_checks
returns-then-parts-gt1-2 c = search cases

pub bounds-parts-3 : goal.bounds-parts-3
unfolding words_checks
bounds-parts-3 c = search rules

pub returns-then-parts-gt1-3 : goal.returns-then-parts-gt1-3
unfolding words_checks
returns-then-parts-gt1-3 c = search cases

pub returns : goal.returns
unfolding words_checks
returns c = search cases
