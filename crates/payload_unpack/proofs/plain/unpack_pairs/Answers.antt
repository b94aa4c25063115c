-- `unpack_pairs` meets its promise: place k is filled with the words 2 k and 2 k + 1.
use Rattle.words.proofs.Kit.{◌*◌, ◌+◌, get_or, rules}
use Rattle.words.specs.Word.{high_first}
use Rattle.bitstream.proofs.FilledLaws.{filled_whole}
use Rattle.payload_unpack.proofs.plain.unpack_pairs.Goals as goal

pub returns : goal.returns
returns c =
    let ws = c.args.payload.now in
    filled_whole _ _ _ _ c.requires.1
    (c.write_items.ensures (λ k. high_first (get_or ws (2 * k) 0) (get_or ws (2 * k + 1) 0)) (λ k x from turn given. search rules))
