-- `bits` meets its promise: `bits_are` says what a word and the next hold.
use Rattle.words.proofs.Kit.{ℕ, ◌^◌, ◌<◌, arith, get_or}
use Rattle.payload_unpack.proofs.WindowLaws.{bits_are}
use Rattle.payload_unpack.proofs.window.bits.Goals as goal

pub returns : goal.returns
returns c =
    let words_small : (j : ℕ) → get_or c.args.payload.now j 0 < 2 ^ 32 = λ j. omega (arith, c.type_inv.payload j) in
    search (bits_are, words_small)
