-- `unpack_words` meets its promise: place k is filled with word k.
use Rattle.words.proofs.Kit.{get_or, rules}
use Rattle.bitstream.proofs.FilledLaws.{filled_whole}
use Rattle.payload_unpack.proofs.plain.unpack_words.Goals as goal

pub returns : goal.returns
returns c = filled_whole _ _ _ _ c.requires.1 (c.write_items.ensures (λ k. get_or c.args.payload.now k 0) (λ k x from turn given. search rules))
