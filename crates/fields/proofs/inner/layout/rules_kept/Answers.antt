-- `rules_kept` meets its promise: the fields stand one after the other, so what the three parts find is what all fields are (`low_decides`).
use Rattle.fields.proofs.BodyLaws.{high_broken, middle_broken, low_decides}
use Rattle.fields.proofs.inner.layout.rules_kept.Goals as goal

pub returns-in_default : goal.returns-in_default
returns-in_default c = high_broken c.args.bits c.args.body.now c.in_default.ensures.broken

pub returns-in_default-walk : goal.returns-in_default-walk
returns-in_default-walk c = let kept = c.in-Some.ensures.kept in middle_broken _ _ _ kept.0 kept.1 c.in_default-walk.ensures.broken

pub returns : goal.returns
returns c =
    let middle = c.in-Some.ensures.kept in
    let low = c.in-Some-walk.ensures.kept in
    low_decides _ _ _ middle.0 middle.1 _ _ low.0 low.1 (rw c.words_from.ensures at c.low_kept.ensures)
