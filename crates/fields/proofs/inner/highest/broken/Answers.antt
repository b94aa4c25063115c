-- `broken` meets its promise. The invariant `Seeking` says what is left: the highest broken field is among the bits that are left, and the walk stands at the
-- next of them; its laws carry the turn.
use Rattle.words.proofs.Kit.{rules}
use Rattle.fields.proofs.BrokenLaws.{seeking_start, seeking_bit, seeking_broken, seeking_turn, seeking_near, seeking_end}
use Rattle.fields.proofs.inner.highest.broken.Goals as goal

pub loop-bit-init : goal.loop-bit-init
loop-bit-init c = rw c.into_iter-bit-iterator.ensures.into_iter_gives (search seeking_start)

pub returns-then-not-field_kept : goal.returns-then-not-field_kept
returns-then-not-field_kept c =
    let next = c.in-Some.ensures.steps in
    let rule = rw c.words_from-ws.ensures at c.field_kept.ensures in
    (search seeking_broken, search seeking_near)

pub words_of-at-requires : goal.words_of-at-requires
words_of-at-requires c = let next = c.in-Some.ensures.steps in search seeking_bit

pub overflow_add-at : goal.overflow_add-at
overflow_add-at c = search (rules, seeking_near)

pub loop-bit-preserved : goal.loop-bit-preserved
loop-bit-preserved c =
    let next = c.in-Some.ensures.steps in
    let rule = rw c.words_from-ws.ensures at c.field_kept.ensures in
    let own = rw c.words_from-ws.ensures at c.words_of-at.ensures.0 in
    search seeking_turn

pub returns : goal.returns
returns c = let none = c.in-None.ensures.steps in (search seeking_end, search rules)
