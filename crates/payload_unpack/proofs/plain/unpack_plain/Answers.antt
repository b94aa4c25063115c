-- `unpack_plain` meets its promise: `plain_words` and `plain_pairs` say what items of 32 and 64 bits without tags are.
use Rattle.words.proofs.Kit.{ℕ, ◌<◌, ◌^◌, arith, get_or}
use Rattle.payload_unpack.proofs.UnpackLaws.{words_there, plain_words, pairs_there, plain_pairs}
use Rattle.payload_unpack.proofs.plain.unpack_plain.Goals as goal

pub unpack_pairs-requires : goal.unpack_pairs-requires
unpack_pairs-requires c = search pairs_there

pub returns-then-p-eq64 : goal.returns-then-p-eq64
returns-then-p-eq64 c =
    let words_small : (j : ℕ) → get_or c.args.payload.now j 0 < 2 ^ 32 = λ j. omega (arith, c.type_inv.payload j) in
    search (plain_pairs c.requires.0, words_small)

pub unpack_words-requires : goal.unpack_words-requires
unpack_words-requires c = search words_there

pub returns-then-p-eq32 : goal.returns-then-p-eq32
returns-then-p-eq32 c =
    let words_small : (j : ℕ) → get_or c.args.payload.now j 0 < 2 ^ 32 = λ j. omega (arith, c.type_inv.payload j) in
    search (plain_words c.requires.0, words_small)
