-- `lay_block` meets its promise: what is copied into the array, and out of it again, is the part of the body.
use Rattle.words.proofs.Kit.{◌≡◌, ◌∙◌, List, ℕ, ◌+◌, ◌≤◌, arith, length, rules}
use lib.ListN.{replicate, length-replicate}
use Rattle.words.specs.Part.{part, put}
use Rattle.words.proofs.PartLaws.{part_length, part_put}
use Rattle.packet_write.proofs.laying.lay_block.Goals as goal

through : (body out block left : List ℕ) (at n : ℕ) → n ≤ 2048 → at + n ≤ length body → block ≡ put 0 n (part at n body) (replicate 2048 0)
    → left ≡ put at n (part 0 n block) out → left ≡ put at n (part at n body) out
through body out block left at n most inside b l =
    l ∙ rw (b, part_put 0 n (part at n body) (replicate 2048 0) (omega (arith, length-replicate {A = ℕ} 2048 0)) (part_length at n body inside))

pub returns : goal.returns
returns c = search through
