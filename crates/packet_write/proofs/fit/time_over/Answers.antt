-- `time_over` meets its promise: a fraction is TIME only where TSF is 2.
use Rattle.words.proofs.Cases.{cases}
use Rattle.packet.specs.Read.{time_over}
use Rattle.packet_write.specs.AsWords.{parts_in}
use borrow.Author.Rules.{rules}
use Rattle.packet_write.proofs.fit.time_over.Goals as goal

pub bounds-q-5 : goal.bounds-q-5
unfolding parts_in time_over
bounds-q-5 c = search rules

pub returns-then-q-ne2 : goal.returns-then-q-ne2
unfolding parts_in time_over
returns-then-q-ne2 c = search cases

pub bounds-q-12 : goal.bounds-q-12
unfolding parts_in time_over
bounds-q-12 c = search rules

pub bounds-q-13 : goal.bounds-q-13
unfolding parts_in time_over
bounds-q-13 c = search rules

pub fraction_over-requires : goal.fraction_over-requires
unfolding parts_in time_over
fraction_over-requires c = search rules

pub returns : goal.returns
unfolding parts_in time_over
returns c = search cases
