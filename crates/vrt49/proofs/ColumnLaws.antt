-- What `vrt49_readings` tells. The idea: the columns are always those of 21 readings, of which the first i are the record's and the others absent (`shown_to`);
-- a turn of the loop sets reading i, and with it entry i of each column.
use Rattle.words.proofs.Kit.{◌≡◌, refl, sym, ap, ◌∙◌, List, [], ◌∷◌, ◌++◌, ℕ, zero, suc, ◌+◌, ◌-◌, ◌≤◌, ◌<◌, arith, take, set}
use mathlib.Core.List.{map, append_assoc, append-nil}
use lib.ListN.{replicate}
use lib.Seq.{length-take-le, take_all, take-suc, set_at}
use lib.IntN.{ℤ, pos}
use lib.Ieee.{Float}
use Rattle.panel.specs.declared.FieldReading.{FieldReading}
use Rattle.panel.specs.Readings.{Reading, absent, record_shows, shown_in}
use Rattle.panel.specs.AllReadings.{record_readings}
use Rattle.panel.proofs.AllReadingLaws.{readings_many, readings_at}
use Rattle.vrt49.specs.declared.readings.Values.{Values}
use Rattle.vrt49.specs.Readings.{plus_zero, numbers_of, columns, readings_values}

-- ---- the readings, as far as they are shown

-- the first i readings of a record, and the others as absent
abbrev pub shown_to : ℕ → List ℕ → List Reading
shown_to i r = take i (record_readings r) ++ replicate (21 - i) absent

module _ (r : List ℕ) (i : ℕ) where
  pub shown_more : i < 21 → set (shown_to i r) i (record_shows (30 - i) r) ≡ shown_to (i + 1) r
  shown_more h =
      let rs = record_readings r in
      let x = record_shows (30 - i) r in
      let rest = replicate (21 - (i + 1)) absent in
      let few : 21 - i ≡ suc (21 - (i + 1)) = omega arith in
      let next : suc i ≡ i + 1 = omega arith in
      ap (λ (n : ℕ). set (take i rs ++ replicate n absent) i x) few
      ∙ set_at (take i rs) absent rest x i (length-take-le i rs (omega (arith, readings_many r)))
      ∙ sym (append_assoc (take i rs) (x ∷ []) rest)
      ∙ ap (λ (ys : List Reading). ys ++ rest)
      (ap (λ (y : Reading). take i rs ++ (y ∷ [])) (sym (readings_at r i h)) ∙ sym (take-suc rs i absent (omega (arith, readings_many r)))
      ∙ ap (λ (n : ℕ). take n rs) next)

  pub shown_all : 21 ≤ i → shown_to i r ≡ record_readings r
  shown_all h =
      let none : 21 - i ≡ 0 = omega arith in
      rw (none, take_all i (record_readings r) (omega (arith, readings_many r))) (append-nil (record_readings r))

-- ---- their numbers, in columns

map_set : {A B : Type 0} (f : A → B) (xs : List A) (i : ℕ) (x : A) → map f (set xs i x) ≡ set (map f xs) i (f x)
map_set f [] i x = refl
map_set f (y ∷ ys) zero x = refl
map_set f (y ∷ ys) (suc i) x = ap (◌∷◌ (f y)) (map_set f ys i x)

-- the columns of some readings, when entry i of each is set by a reading's numbers
module _ (rs : List Reading) (kinds parts : List ℕ) (hertz : List ℤ) (first second : List Float)
    (e : (kinds, parts, hertz, first, second) ≡ readings_values rs) (i : ℕ) (x : Reading) where
  columns_set : (v : Values) → v ≡ numbers_of x
      → (set kinds i v.kind, set parts i v.parts, set hertz i v.hertz, set first i v.first, set second i v.second) ≡ readings_values (set rs i x)
  unfolding columns
  columns_set v f =
      let vs = map numbers_of rs in
      rw (
        f,
        ap (λ t. t.0) e,
        ap (λ t. t.1) e,
        ap (λ t. t.2) e,
        ap (λ t. t.3) e,
        ap (λ t. t.4) e,
        map_set numbers_of rs i x,
        map_set (λ (w : Values). w.kind) vs i (numbers_of x),
        map_set (λ (w : Values). w.parts) vs i (numbers_of x),
        map_set (λ (w : Values). w.hertz) vs i (numbers_of x),
        map_set (λ (w : Values). w.first) vs i (numbers_of x),
        map_set (λ (w : Values). w.second) vs i (numbers_of x),
      )

-- before the first row
pub columns_none : (replicate 21 6, replicate 21 0, replicate 21 (pos 0), replicate 21 plus_zero, replicate 21 plus_zero)
    ≡ readings_values (replicate 21 absent)
unfolding columns
columns_none = refl

-- a turn: d is what the field shows, v its numbers, whose whole hertz are stored as z
pub columns_turn : (r : List ℕ) (i : ℕ) (kinds parts : List ℕ) (hertz : List ℤ) (first second : List Float) (d : FieldReading) (v : Values) (z : ℤ) → i < 21
    → (kinds, parts, hertz, first, second) ≡ readings_values (shown_to i r) → shown_in d ≡ record_shows (30 - i) r
    → v ≡ numbers_of (shown_in d) → z ≡ v.hertz
    → (set kinds i v.kind, set parts i v.parts, set hertz i z, set first i v.first, set second i v.second) ≡ readings_values (shown_to (i + 1) r)
columns_turn r i kinds parts hertz first second d v z h e p f g =
    rw g (columns_set (shown_to i r) kinds parts hertz first second e i (record_shows (30 - i) r) v (f ∙ ap numbers_of p))
    ∙ ap readings_values (shown_more r i h)
