-- `end_of` meets its promise: the fields of fixed size come first, and 9 and 8 behind them (`end_counted`).
use Rattle.fields.proofs.BodyLaws.{end_fixed, end_counted}
use Rattle.fields.proofs.inner.layout.end_of.Goals as goal

pub returns-then-bits-eq0 : goal.returns-then-bits-eq0
returns-then-bits-eq0 c = search end_fixed

pub returns : goal.returns
returns c =
    let nine = rw c.words_from.ensures at c.taken.ensures.0 in
    let eight = rw c.words_from-2.ensures at c.taken-2.ensures.0 in
    search end_counted
