-- `pack_tagged` meets its promise. The invariant: k fields are put (`Writing`); `writing_next` carries the turn, `writing_done` the end.
use Rattle.payload_format.specs.Field.{fields_of}
use Rattle.payload_pack.proofs.WritingLaws.{Writing}
use Rattle.payload_pack.proofs.making.pack_tagged.Given as goal

abbrev pub invariant-loop-k : goal.invariant-loop-k
invariant-loop-k l = Writing l.c l.f (fields_of l.p l.items l.events l.channels) l.initial.out l.out l.s l.k
