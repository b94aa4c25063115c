-- `copy_words` meets its promise. The invariant: the first i words are copied, the rest are as they were; `copy_more` carries the turn.
use Rattle.words.proofs.Kit.{◌≤◌, ◌<◌, ◌-◌, ◌≡◌, ◌++◌, length, take, drop, arith, rules}
use lib.ListN.{length-set}
use Rattle.words.proofs.CopyLaws.{copy_more, copied_all}
use Rattle.words.proofs.inner.copies.copy_words.Given as goal

abbrev pub invariant-loop-i : goal.invariant-loop-i
invariant-loop-i l = (l.i ≤ length l.initial.dst) × (length l.dst ≡ length l.initial.dst) × (l.dst ≡ take l.i l.src ++ drop l.i l.initial.dst)

abbrev pub decreases-loop-i : goal.decreases-loop-i
decreases-loop-i l = length l.initial.dst - l.i
