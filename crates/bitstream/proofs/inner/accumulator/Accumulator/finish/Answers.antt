-- `finish` meets its promise: `word_left` puts the bits that are held at the left of a word.
use Rattle.bitstream.proofs.AccumulatorLaws.{word_left}
use Rattle.words.proofs.Kit.{arith, refl, ap, ℕ, set, rules}
use Rattle.bitstream.proofs.inner.accumulator.Accumulator.finish.Goals as goal

pub offset_bounds-out-at : goal.offset_bounds-out-at
offset_bounds-out-at c = let l = c.requires.1 c.if-have-gt0.true in search rules

pub bounds-out-at : goal.bounds-out-at
bounds-out-at c = c.requires.1 c.if-have-gt0.true

pub returns-then-have-gt0 : goal.returns-then-have-gt0
returns-then-have-gt0 c =
    let a = c.args in
    record {
      none = λ e. absurd (omega arith);
      some = λ l. ap (λ (x : ℕ). set a.out.now a.self.at x) (word_left a.self.acc a.self.have (omega arith));
    }

pub returns-else-have-gt0 : goal.returns-else-have-gt0
returns-else-have-gt0 c = record { none = λ e. refl; some = λ l. absurd (omega arith) }
