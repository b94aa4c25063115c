-- `push` meets its promise: `pushed_more` where no word is filled, and else `pushed_word`.
use Rattle.words.proofs.Kit.{◌<◌, arith, length}
use Rattle.bitstream.proofs.WriteLaws.{joint_below, place_there, pushed_more, pushed_word}
use Rattle.bitstream.proofs.inner.accumulator.Accumulator.push.Goals.{Else-have-c}
use Rattle.bitstream.proofs.inner.accumulator.Accumulator.push.Goals as goal

there : (c : Else-have-c) → c.args.self.now.at < length c.args.out.now
there c = search place_there

pub overflow_add-acc : goal.overflow_add-acc
overflow_add-acc c = search joint_below

pub returns-then-have-c : goal.returns-then-have-c
returns-then-have-c c = search pushed_more

pub offset_bounds-out-at : goal.offset_bounds-out-at
offset_bounds-out-at c = omega (arith, there ((goal.at.offset_bounds-out-at c).Else-have-c))

pub bounds-out-at : goal.bounds-out-at
bounds-out-at c = search (there ((goal.at.bounds-out-at c).Else-have-c))

pub overflow_add-self : goal.overflow_add-self
overflow_add-self c = omega (arith, there ((goal.at.overflow_add-self c).Else-have-c))

pub returns : goal.returns
returns c = search pushed_word
