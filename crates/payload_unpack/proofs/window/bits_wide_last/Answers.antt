-- `bits_wide_last` meets its promise, as `bits_wide` does: a word past the last reads as 0.
use Rattle.words.proofs.Kit.{ℕ, ◌^◌, ◌<◌, arith, get_or}
use Rattle.payload_unpack.proofs.WindowLaws.{bits_wide_are}
use Rattle.payload_unpack.proofs.window.bits_wide_last.Goals as goal

pub returns : goal.returns
returns c =
    let words_small : (j : ℕ) → get_or c.args.payload.now j 0 < 2 ^ 32 = λ j. omega (arith, c.type_inv.payload j) in
    search (bits_wide_are, words_small)
