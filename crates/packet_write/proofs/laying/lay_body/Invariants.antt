-- `lay_body` meets its promise. The invariant `Copying` says that the words up to the place are copied and whole blocks are left; its laws carry the turn.
use Rattle.words.proofs.Kit.{◌-◌, arith, rules}
use Rattle.packet_write.proofs.LayLaws.{Copying, copying_start, block_inside, copying_turn, copying_end}
use Rattle.packet_write.proofs.laying.lay_body.Given as goal

abbrev pub invariant-loop-at : goal.invariant-loop-at
invariant-loop-at l = Copying l.body l.initial.out l.at l.out

abbrev pub decreases-loop-at : goal.decreases-loop-at
decreases-loop-at l = l.n - l.at
