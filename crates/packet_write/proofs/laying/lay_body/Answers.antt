-- `lay_body` meets its promise. The invariant `Copying` says that the words up to the place are copied and whole blocks are left; its laws carry the turn.
use Rattle.words.proofs.Kit.{◌-◌, arith, rules}
use Rattle.packet_write.proofs.LayLaws.{Copying, copying_start, block_inside, copying_turn, copying_end}
use Rattle.packet_write.proofs.laying.lay_body.Goals as goal

pub loop-at-init : goal.loop-at-init
loop-at-init c = search copying_start

pub lay_block-requires-in-loop-at : goal.lay_block-requires-in-loop-at
lay_block-requires-in-loop-at c =
    let inside = block_inside c.loop-at.invariant (search) in
    (search rules, inside, omega (arith, inside))

pub loop-at-preserved : goal.loop-at-preserved
loop-at-preserved c = search copying_turn

pub returns : goal.returns
returns c = search copying_end
