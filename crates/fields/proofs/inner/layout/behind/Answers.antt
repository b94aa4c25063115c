-- `behind` meets its promise: field 9 stands behind the fields of fixed size, and field 8 is not there (`end_ninth`).
use Rattle.fields.proofs.BodyLaws.{end_ninth}
use Rattle.fields.proofs.inner.layout.behind.Goals as goal

pub returns : goal.returns
returns c = let nine = rw c.words_from.ensures at c.taken.ensures.0 in search end_ninth
