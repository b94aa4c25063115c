-- Readings for the panel: the values of each kind in the order of include/vrt49.h.
use Rattle.std.specs.Prelude.{ℕ, false, List, [], ◌∷◌, map, ℤ, pos, Float}
use Rattle.std.specs.Float.{fin}
use Rattle.panel.specs.Readings.{Reading, frequency, level, gain, temperature, other, absent}
use Rattle.vrt49.specs.declared.readings.Values.{Values}

-- ---- a reading as numbers

-- plus zero
abbrev pub plus_zero : Float
plus_zero = fin false 0 (pos 0)

-- a reading that is no frequency
abbrev pub levelled_of : ℕ → Float → Float → Values
levelled_of kind first second = record { kind = kind; parts = 0; hertz = pos 0; first = first; second = second }

-- the kind; the parts of 2^20 and the whole hertz of a frequency; the level or the temperature, or both stages of a gain; zero what it has not
abbrev pub numbers_of : Reading → Values
numbers_of (frequency hertz parts) = record { kind = 1; parts = parts; hertz = hertz; first = plus_zero; second = plus_zero }
numbers_of (level x) = levelled_of 2 x plus_zero
numbers_of (gain x y) = levelled_of 3 x y
numbers_of (temperature x) = levelled_of 4 x plus_zero
numbers_of other = levelled_of 5 plus_zero plus_zero
numbers_of absent = levelled_of 6 plus_zero plus_zero

-- the places of a reading's numbers: the kind, the parts, the whole hertz, and the two levels
abbrev pub places : Values → ℕ × ℕ × ℤ × List Float
places v = (v.kind, v.parts, v.hertz, v.first ∷ v.second ∷ [])

abbrev pub reading_values : Reading → ℕ × ℕ × ℤ × List Float
reading_values r = places (numbers_of r)

-- ---- all readings of a stream, in columns

-- the numbers of some readings, a column for each: kinds, parts, whole hertz, first and second levels; entry i of each is that of bit 30 - i
unfoldable pub columns : List Values → List ℕ × List ℕ × List ℤ × List Float × List Float
columns vs = (map (λ v. v.kind) vs, map (λ v. v.parts) vs, map (λ v. v.hertz) vs, map (λ v. v.first) vs, map (λ v. v.second) vs)

abbrev pub readings_values : List Reading → List ℕ × List ℕ × List ℤ × List Float × List Float
readings_values rs = columns (map numbers_of rs)
