-- `low_kept` meets its promise. The invariant `Walking` says what is left: the fields of the bits that are left, the first of the words that are left, decide;
-- its laws carry the turn.
use Rattle.fields.proofs.WalkLaws.{walking_start, walking_bit, walking_turn, walking_broken, walking_end}
use Rattle.fields.proofs.inner.layout.low_kept.Goals as goal

pub loop-bit-init : goal.loop-bit-init
loop-bit-init c = rw c.into_iter-bit-iterator.ensures.into_iter_gives (search walking_start)

pub returns-then-not-field_kept : goal.returns-then-not-field_kept
returns-then-not-field_kept c = let next = c.in-Some.ensures.steps in search walking_broken

pub words_of-requires : goal.words_of-requires
words_of-requires c = let next = c.in-Some.ensures.steps in search walking_bit

pub loop-bit-preserved : goal.loop-bit-preserved
loop-bit-preserved c = let next = c.in-Some.ensures.steps in search walking_turn

pub returns : goal.returns
returns c = let none = c.in-None.ensures.steps in search walking_end
