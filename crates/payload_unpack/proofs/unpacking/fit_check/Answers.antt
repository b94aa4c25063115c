-- A legal packing is one that `words_of` takes.
use Rattle.payload_unpack.proofs.unpacking.fit_check.Goals as goal

pub words_of-requires : goal.words_of-requires
words_of-requires c =
    let l = c.requires.0 in
    (l.some, l.most, l.few, c.requires.1)
