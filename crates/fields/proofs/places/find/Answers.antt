-- `find` meets its promise: each return is a line of the definition; the place is the end of the fields of the bits above.
use Rattle.words.proofs.Kit.{◌≡◌, rules}
use Rattle.words.proofs.Cases.{cases}
use Rattle.fields.specs.Layout.{place_of, found_of}
use Rattle.fields.proofs.PlaceLaws.{cleared_bit, place_above}
use Rattle.fields.proofs.places.find.Goals as goal

pub returns-then-bit-gt30 : goal.returns-then-bit-gt30
unfolding found_of
returns-then-bit-gt30 c = search cases

pub returns-then-bit-lt8 : goal.returns-then-bit-lt8
unfolding found_of
returns-then-bit-lt8 c = search cases

pub returns-then-indicator-bit-ne1 : goal.returns-then-indicator-bit-ne1
unfolding found_of
returns-then-indicator-bit-ne1 c = search (cases, ← c.word_at-indicator.ensures)

pub behind-requires : goal.behind-requires
behind-requires c = search cleared_bit

pub returns : goal.returns
unfolding found_of
returns c =
    let w = c.word_at-indicator in
    let a = c.args in
    let e : c.behind.result ≡ place_of a.bit a.body.now =
    place_above w.result a.bit _ a.body.now w.ensures (search rules) c.behind.ensures in
    search (cases, ← w.ensures, ← e, c.inside.ensures)
