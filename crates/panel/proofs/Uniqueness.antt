-- Two outcomes that meet a public call's promise are equal: its answer, and the lent buffer afterwards. The idea: each `paper` has a left inverse.
use Rattle.std.specs.Prelude.{Result}
use Rattle.words.proofs.Kit.{◌≡◌, refl, ap₂, List, [], ◌∷◌, ℕ}
use mathlib.Core.List.{map}
use Rattle.words.specs.declared.refusals.Refusal.{Refusal}
use Rattle.words.proofs.Once.{on_paper_as_once}
use Rattle.panel.specs.Readings.{Reading, frequency, level, gain, temperature, other, absent, reading_of, shown_in, reading_paper}
use Rattle.panel.specs.AllReadings.{readings_of, readings_paper}
use Rattle.panel.specs.declared.FieldReading.{FieldReading}
use Rattle.panel.specs.declared.FieldReading.TheVariants as dial

-- ---- the left inverses
abbrev reading_back : Reading → FieldReading
reading_back (frequency hertz parts) = dial.Frequency hertz parts
reading_back (level x) = dial.Level x
reading_back (gain x y) = dial.Gain (record { stage1 = x; stage2 = y })
reading_back (temperature x) = dial.Temperature x
reading_back other = dial.Other
reading_back absent = dial.Absent

reading_left : (a : FieldReading) → reading_back (shown_in a) ≡ a
reading_left (dial.Frequency hertz parts) = refl
reading_left (dial.Level x) = refl
reading_left (dial.Gain g) = refl
reading_left (dial.Temperature x) = refl
reading_left dial.Other = refl
reading_left dial.Absent = refl

readings_left : (rs : List FieldReading) → map reading_back (map shown_in rs) ≡ rs
readings_left [] = refl
readings_left (r ∷ rs) = ap₂ ◌∷◌ (reading_left r) (readings_left rs)

-- ---- one law for each public call
pub reading_once : (t : List ℕ) (stream bit : ℕ) (r s : Result FieldReading Refusal) → reading_paper r ≡ reading_of t stream bit
    → reading_paper s ≡ reading_of t stream bit → r ≡ s
reading_once t stream bit r s p q = on_paper_as_once shown_in reading_back reading_left p q

pub readings_once : (t : List ℕ) (stream : ℕ) (r s : Result (List FieldReading) Refusal) → readings_paper r ≡ readings_of t stream
    → readings_paper s ≡ readings_of t stream → r ≡ s
readings_once t stream r s p q = on_paper_as_once (map shown_in) (map reading_back) readings_left p q
