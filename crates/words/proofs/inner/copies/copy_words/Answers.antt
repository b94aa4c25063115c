-- `copy_words` meets its promise. The invariant: the first i words are copied, the rest are as they were; `copy_more` carries the turn.
use Rattle.words.proofs.Kit.{◌≤◌, ◌<◌, ◌-◌, ◌≡◌, ◌++◌, length, take, drop, arith, rules}
use lib.ListN.{length-set}
use Rattle.words.proofs.CopyLaws.{copy_more, copied_all}
use Rattle.words.proofs.inner.copies.copy_words.Goals as goal

pub loop-i-preserved : goal.loop-i-preserved
loop-i-preserved c =
    let b = c in
    let dst = b.args.dst.now in
    let src = b.args.src.now in
    let h : b.loop-i.i < length dst = omega arith in
    let k : b.loop-i.i < length src = omega arith in
    (omega arith, simp length-set (omega arith), rw b.loop-i.invariant.2 (copy_more dst src b.loop-i.i h k))

pub returns : goal.returns
returns c =
    let b = c in
    let h : b.loop-i.i ≡ length b.args.dst.now = omega arith in
    rw (b.loop-i.invariant.2, h) (copied_all b.args.dst.now b.args.src.now)
