-- `state_good_in` meets its promise: behind the state word stand the words of the lower fields.
use Rattle.words.proofs.Kit.{◌≤◌, arith, length, rules}
use Rattle.record.specs.Layout.{head_words}
use Rattle.page.proofs.BodyLaws.{body_some}
use Rattle.page.proofs.GoodLaws.{state_absent, state_there, state_inside, state_answer}
use Rattle.page.proofs.good.state_good_in.Goals.{Start}
use Rattle.page.proofs.good.state_good_in.Goals as goal

-- the body has its first words
first-words : (c : Start) → head_words ≤ length c.args.body.now
first-words c = search body_some

pub bounds-body-1 : goal.bounds-body-1
bounds-body-1 c = omega (arith, first-words ((goal.at.bounds-body-1 c).Start))

pub overflow_sub-at : goal.overflow_sub-at
overflow_sub-at c = omega (arith, first-words ((goal.at.overflow_sub-at c).Start))

pub overflow_sub-at-then-held-eq1 : goal.overflow_sub-at-then-held-eq1
overflow_sub-at-then-held-eq1 c = search state_there

pub bounds-body-at : goal.bounds-body-at
bounds-body-at c = search state_inside

pub returns-then-held-eq1 : goal.returns-then-held-eq1
returns-then-held-eq1 c = search state_answer

pub returns : goal.returns
returns c = search state_absent
