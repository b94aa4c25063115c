-- `body_good` meets its promise: first words that are not good end it, and else the walk over the held words and the state word answer (`body_kept`).
use Rattle.words.proofs.Kit.{◌≤◌, arith, length, rules}
use Rattle.record.specs.Layout.{head_words}
use Rattle.page.proofs.BodyLaws.{body_some}
use Rattle.page.proofs.GoodLaws.{body_ill, body_broken, body_kept}
use Rattle.page.proofs.good.body_good.Goals.{Start}
use Rattle.page.proofs.good.body_good.Goals as goal

-- the body has its first words
first-words : (c : Start) → head_words ≤ length c.args.body.now
first-words c = search body_some

pub head_good-requires : goal.head_good-requires
head_good-requires c = search body_some

pub returns-then-not-head_good : goal.returns-then-not-head_good
returns-then-not-head_good c = search body_ill

pub bounds-body-1 : goal.bounds-body-1
bounds-body-1 c = omega (arith, first-words ((goal.at.bounds-body-1 c).Start))

pub slice_bounds-rules_kept-count : goal.slice_bounds-rules_kept-count
slice_bounds-rules_kept-count c = omega (arith, first-words ((goal.at.slice_bounds-rules_kept-count c).Start))

pub slice_bounds-rules_kept-start : goal.slice_bounds-rules_kept-start
slice_bounds-rules_kept-start c = omega (arith, first-words ((goal.at.slice_bounds-rules_kept-start c).Start))

pub returns-then-rules_kept : goal.returns-then-rules_kept
returns-then-rules_kept c = search body_kept

pub returns-else-rules_kept : goal.returns-else-rules_kept
returns-else-rules_kept c = search body_broken
