-- `number_for` meets its promise: the three numbers are joined by their widths.
use Rattle.words.proofs.Kit.{◌≡◌, ℕ, ◌+◌, ◌*◌, arith, rules}
use Rattle.words.specs.Word.{join}
use Rattle.words.specs.Told.{RefusalTold, place_word, place_bit}
use Rattle.vrt49.specs.Answers.{number_for}
use Rattle.vrt49.proofs.answers.number_for.Goals as goal

joined : (r : RefusalTold) (number bit word : ℕ) → number ≡ r.number → bit ≡ place_bit r.place → word ≡ place_word r.place
    → number + 256 * (bit + 256 * word) ≡ number_for r
unfolding number_for join
joined r number bit word n e f = rw (n, e, f) (omega arith)

pub returns : goal.returns
returns c = joined _ _ _ _ c.from.ensures c.place_bit.ensures c.place_word-word.ensures
