-- The table stays well made, and a step that goes on passes at least a word.
use Rattle.words.proofs.Kit.{◌<◌, arith}
use Rattle.vrtplay.proofs.WalkLaws.{turn_kept, turn_on}
use Rattle.vrtplay.proofs.walk.Goals as goal

pub loop-at-smaller : goal.loop-at-smaller
loop-at-smaller g c =
    let on : c.loop-at.at < c.in-Some.next = turn_on _ _ _ _ _ c.loop-at.invariant c.step-s.ensures _ c.in-Some.is in
    omega (arith, c.loop-at-test.true)

pub loop-at-preserved : goal.loop-at-preserved
loop-at-preserved g c = (turn_kept _ _ _ _ _ c.loop-at.invariant c.step-s.ensures).1
