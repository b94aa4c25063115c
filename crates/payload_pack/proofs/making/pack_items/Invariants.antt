-- `pack_items` meets its promise. The invariant: k fields are put (`Writing`); `writing_next` carries the turn, `writing_done` the end.
use Rattle.payload_pack.proofs.WritingLaws.{Writing}
use Rattle.words.proofs.Kit.{get_or, ◌*◌, ◌^◌}
use Rattle.payload_pack.proofs.making.pack_items.Given as goal

abbrev pub invariant-loop-k : goal.invariant-loop-k
invariant-loop-k l = Writing l.c l.f (λ j. get_or l.items j 0 * 2 ^ l.up) l.initial.out l.out l.s l.k
