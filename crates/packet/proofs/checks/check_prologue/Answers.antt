-- `check_prologue` meets its promise: each return is a line of the chain.
use Rattle.words.proofs.Kit.{◌≡◌, Bool, true, false, List, ℕ, ◌+◌, ◌^◌, ne_eqb, leb, get_or}
use Rattle.words.specs.Numbers.{CLASS, TIME}
use Rattle.words.specs.Word.{high_first}
use Rattle.words.specs.Outcome.{refused, accepted}
use Rattle.packet.specs.Header.{tsf_of}
use Rattle.packet.specs.Parts.{fraction_at, class_high}
use Rattle.packet.specs.Read.{time_over, class_bad}
use Rattle.packet.specs.inner.Steps.{prologue_checks}
use Rattle.packet.proofs.RoomLaws.{high_inside, low_inside, fraction_words}
use Rattle.packet.proofs.checks.check_prologue.Goals as goal

module _ (free : Bool) (w high : ℕ) (ws : List ℕ) (h : high ≡ class_high w ws) (bad : Bool) (b : bad ≡ class_bad free high) where
  class_refused : bad ≡ true → refused CLASS ≡ prologue_checks free w ws
  unfolding prologue_checks
  class_refused set = rw (← h, ← b, set)

  module _ (clear : bad ≡ false) (tsf : ℕ) (t : tsf ≡ tsf_of w) where
    no_fraction : (tsf ≡ 2 → ⊥) → accepted tt ≡ prologue_checks free w ws
    unfolding prologue_checks time_over
    no_fraction other = rw (← h, ← b, clear, ← t, ne_eqb tsf 2 other)

    module _ (two : tsf ≡ 2) (at : ℕ) (a : at ≡ fraction_at w) (over : Bool) (o : over ≡ leb (10 ^ 12) (high_first (get_or ws at 0) (get_or ws (at + 1) 0)))
      where
        time_refused : over ≡ true → refused TIME ≡ prologue_checks free w ws
        unfolding prologue_checks time_over
        time_refused e = rw (← h, ← b, clear, ← t, two, fraction_words w tsf at t two a ws, ← o, e)

        time_fits : over ≡ false → accepted tt ≡ prologue_checks free w ws
        unfolding prologue_checks time_over
        time_fits e = rw (← h, ← b, clear, ← t, two, fraction_words w tsf at t two a ws, ← o, e)

pub returns-then-class_bad : goal.returns-then-class_bad
returns-then-class_bad c = search class_refused

pub returns-then-tsf_of-ne2 : goal.returns-then-tsf_of-ne2
returns-then-tsf_of-ne2 c = search no_fraction

pub bounds-ws-at : goal.bounds-ws-at
bounds-ws-at c = search high_inside

pub bounds-ws-at-2 : goal.bounds-ws-at-2
bounds-ws-at-2 c = search low_inside

pub returns-then-fraction_over : goal.returns-then-fraction_over
returns-then-fraction_over c = search time_refused

pub returns : goal.returns
returns c = search time_fits
