-- What a field shows. The idea: each return of `show` is a line of the definition; first and low are the field's words, as the program read them, and q is
-- whether the field is a frequency.
use Rattle.words.proofs.Kit.{◌≡◌, ap, ◌∙◌, Bool, true, false, List, ℕ, ◌/◌, ◌%◌, ◌^◌, ◌<◌, arith, eq-eqb, ne_eqb, get_or}
use lib.IntN.{ℤ}
use lib.Ieee.{Float}
use lib.Signed.{mag}
use mir.Syntax.{w64}
use mir.Val.{to_z, of_z}
use Rattle.words.specs.Signed.{twos_complement}
use Rattle.panel.specs.Values.{units_of, floor_div, over, lower_half, upper_half}
use Rattle.panel.specs.Readings.{frequency, level, gain, temperature, other, is_frequency, shown_of}
use Rattle.panel.proofs.ValueLaws.{back, parts_is}

module _ (b : ℕ) (ws : List ℕ) (q : Bool) (e : q ≡ is_frequency b) where
  pub shown_frequency : (first low : ℕ) (z hertz : ℤ) → q ≡ true → first ≡ get_or ws 0 0 → low ≡ get_or ws 1 0 → first < 2 ^ 32 → low < 2 ^ 32
      → z ≡ units_of first low → mag z < 2 ^ 63 → hertz ≡ floor_div (to_z w64 (of_z w64 z)) 1048576 → mag hertz < 2 ^ 63
      → frequency (to_z w64 (of_z w64 hertz)) (low % 1048576) ≡ shown_of b ws
  unfolding shown_of
  shown_frequency first low z hertz t f g hf hl ez hz eh hh =
      let m : to_z w64 (of_z w64 hertz) ≡ floor_div (units_of first low) 1048576 = back hertz hh (eh ∙ ap (λ (y : ℤ). floor_div y 1048576) (back z hz ez)) in
      rw (← e, t, ← f, ← g, m, parts_is first low hf hl)

  module _ (n : q ≡ false) where
    pub shown_level : (first : ℕ) (x : Float) → first ≡ get_or ws 0 0 → b ≡ 24 → x ≡ over 7 (twos_complement 16 (first % 65536))
        → level x ≡ shown_of b ws
    unfolding shown_of lower_half
    shown_level first x f i d = rw (← e, n, ← f, eq-eqb b 24 i, d)

    pub shown_gain : (first : ℕ) (x y : Float) → first ≡ get_or ws 0 0 → b ≡ 23 → x ≡ over 7 (twos_complement 16 (first % 65536))
        → y ≡ over 7 (twos_complement 16 (first / 65536 % 65536)) → gain x y ≡ shown_of b ws
    unfolding shown_of lower_half upper_half
    shown_gain first x y f j d u = rw (← e, n, ← f, ne_eqb b 24 (λ i. omega (arith, i, j)), eq-eqb b 23 j, d, u)

    pub shown_temperature : (first : ℕ) (x : Float) → first ≡ get_or ws 0 0 → b ≡ 18 → x ≡ over 6 (twos_complement 16 (first % 65536))
        → temperature x ≡ shown_of b ws
    unfolding shown_of lower_half
    shown_temperature first x f k d =
        rw (← e, n, ← f, ne_eqb b 24 (λ i. omega (arith, i, k)), ne_eqb b 23 (λ j. omega (arith, j, k)), eq-eqb b 18 k, d)

    pub shown_other : (b ≡ 24 → ⊥) → (b ≡ 23 → ⊥) → (b ≡ 18 → ⊥) → other ≡ shown_of b ws
    unfolding shown_of
    shown_other i j k = rw (← e, n, ne_eqb b 24 i, ne_eqb b 23 j, ne_eqb b 18 k)
