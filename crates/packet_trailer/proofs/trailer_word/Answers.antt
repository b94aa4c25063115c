-- `trailer_word` meets its promise: each return is the one test, taken apart, or the join of the parts.
use Rattle.words.proofs.Kit.{◌≡◌, ap, [], ◌∷◌, ◌+◌, ◌*◌, arith, lt-ltb, rules}
use Rattle.words.proofs.Cases.{cases}
use Rattle.words.specs.Word.{join}
use Rattle.words.specs.Outcome.{accepted}
use Rattle.packet_trailer.specs.Trailer.{trailer_word_of}
use Rattle.packet_trailer.proofs.trailer_word.Goals as goal

pub returns-then-enables-ge4096 : goal.returns-then-enables-ge4096
unfolding trailer_word_of
returns-then-enables-ge4096 c = search cases

pub returns-then-indicators-ge4096 : goal.returns-then-indicators-ge4096
unfolding trailer_word_of
returns-then-indicators-ge4096 c = search cases

pub returns-then-e-ge2 : goal.returns-then-e-ge2
unfolding trailer_word_of
returns-then-e-ge2 c = search cases

pub returns-then-associated-ge128 : goal.returns-then-associated-ge128
unfolding trailer_word_of
returns-then-associated-ge128 c = search cases

pub returns : goal.returns
unfolding trailer_word_of join
returns c =
    let t = c.args in
    let same : t.enables * 0x100000 + t.indicators * 0x100 + t.e * 0x80 + t.associated ≡ join (7 ∷ 1 ∷ 12 ∷ 12 ∷ [])
    (t.associated ∷ t.e ∷ t.indicators ∷ t.enables ∷ []) = omega arith in
    rw (
      lt-ltb t.enables 4096 (omega arith),
      lt-ltb t.indicators 4096 (omega arith),
      lt-ltb t.e 2 (omega arith),
      lt-ltb t.associated 128
          (omega arith),
    ) (ap accepted same)
