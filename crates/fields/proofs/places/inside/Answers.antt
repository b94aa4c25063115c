-- `inside` meets its promise: the words that stand in the part from the place on are those of the field there.
use Rattle.words.proofs.Kit.{sym}
use Rattle.fields.proofs.PlaceLaws.{inside_past, inside_cut, inside_whole}
use Rattle.fields.proofs.places.inside.Goals as goal

pub returns-then-body-at : goal.returns-then-body-at
returns-then-body-at c = sym (inside_past _ _ _ c.if-body-at.true)

pub returns-then-body-at-2 : goal.returns-then-body-at-2
returns-then-body-at-2 c = sym (inside_cut _ _ _ _ c.words_of-words.ensures.0 c.if-body-at-2.true)

pub returns : goal.returns
returns c = sym (inside_whole _ _ _ _ c.words_of-words.ensures.0 c.if-body-at.false c.if-body-at-2.false)
