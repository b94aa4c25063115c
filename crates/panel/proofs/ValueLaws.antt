-- Numbers out of held words. The idea: two's complement is `pos` below the sign bit's weight and `negsuc` from there on, so that a range, a remainder and a
-- machine number follow by cases.
use Rattle.words.proofs.Kit.{◌≡◌, refl, sym, ap, subst, ◌∙◌, true, false, ⊎_elim, ℕ, zero, suc, ◌+◌, ◌-◌, ◌*◌, ◌/◌, ◌%◌, ◌^◌, ◌≤◌, ◌<◌, arith, lt-ltb}
use Rattle.words.proofs.Kit.{le-ltb, lt-leb}
use native.Mathlib.Nat.{le_of_lt, lt_of_lt_of_le, lt_of_le_of_lt}
use borrow.Author.Rules.{rules, sfits_of}
use Rattle.std.specs.Prelude.{Result, Ok, Err}
use Rattle.std.specs.Result.{IsOk}
use lib.Dec.{T, lit≤, le→leb, lt→ltb}
use lib.IntN.{ℤ, pos, negsuc, neg_ℤ, ◌+ℤ◌, ◌-ℤ◌, ◌*ℤ◌}
use lib.Ieee.{Float, binary32, in_float, div, of_int}
use lib.Pow.{pow_mono}
use Rattle.std.specs.Int.{int_div_euclid}
use lib.Signed.{mag}
use mir.Syntax.{w64}
use mir.Val.{SFits, to_z, of_z}
use mir.ValLaws.{to_z-of_z}
use Rattle.words.specs.Tests.{pick}
use Rattle.words.specs.declared.refusals.Refusal.{Refusal}
use Rattle.words.specs.Listed.{list_number, on_paper}
use Rattle.words.specs.Outcome.{refused, accepted}
use Rattle.words.specs.Word.{high_first}
use Rattle.words.proofs.Cases.{le_or_lt, accepted_same}
use Rattle.words.proofs.PowerLaws.{signed_low, signed_high, signed_mag}
use Rattle.words.specs.Signed.{twos_complement}
use Rattle.payload_format.specs.Signs.{signed_of}
use Rattle.panel.specs.Values.{units_of, floor_div, floor_rem}

-- ---- what the machine reads back from a signed number's bits
pub back : (z : ℤ) {y : ℤ} → mag z < 2 ^ 63 → z ≡ y → to_z w64 (of_z w64 z) ≡ y
back z h e = to_z-of_z w64 z (sfits_of h) ∙ e

-- ---- two's complement

-- what `payload_format` answers of bits that fit
module _ (w x : ℕ) (lo : 1 ≤ w) (hi : w ≤ 64) (b : x < 2 ^ w) where
  value_fits : signed_of w x ≡ accepted (twos_complement w x)
  unfolding signed_of
  value_fits = simp (le-ltb w 1 lo, le-ltb 64 w hi, lt-leb (2 ^ w) x b)

  pub value_told : (k : Result ℤ Refusal) → on_paper k ≡ signed_of w x → IsOk k
  value_told (Ok z) e = search rules
  value_told (Err r) e =
      let g : refused (list_number r) ≡ accepted (twos_complement w x) = e ∙ value_fits in
      let z : ◌≡◌ {A = ℕ} 0 1 = cc in absurd (omega arith)

  pub value_read : (k : Result ℤ Refusal) → on_paper k ≡ signed_of w x → (z : ℤ) → mag z < 2 ^ 63 → k ≡ Ok z → to_z w64 (of_z w64 z) ≡ twos_complement w x
  value_read k e z h f = back z h (accepted_same (sym (ap on_paper f) ∙ e ∙ value_fits))

-- ---- a frequency's parts are the lower 20 bits of its second word
pub parts_is : (h l : ℕ) → h < 2 ^ 32 → l < 2 ^ 32 → floor_rem (units_of h l) 1048576 ≡ l % 1048576
unfolding units_of
parts_is h l p q =
    let k : high_first h l < 2 ^ 64 = omega arith in
    ⊎_elim (λ (g : 2 ^ 63 ≤ high_first h l). rw (signed_high 64 (high_first h l) g k) (omega arith))
    (λ (g : high_first h l < 2 ^ 63). rw (signed_low 64 (high_first h l) g) (omega arith))
    (le_or_lt (2 ^ 63) (high_first h l))

-- ---- a signed number that an f32 has
in_float_lem : (z : ℤ) → mag z < 2 ^ 24 → T (in_float binary32 z)
unfolding in_float
in_float_lem (pos n) h = le→leb n (2 ^ 24) (le_of_lt h)
in_float_lem (negsuc n) h = lt→ltb n (2 ^ 24) h

-- a signed half of a word, over a float
module _ (half : ℕ) (z : ℤ) (h : half < 65536) (b : mag z < 2 ^ 63) (e : z ≡ twos_complement 16 half) where
  pub half_in_float : T (in_float binary32 (to_z w64 (of_z w64 z)))
  half_in_float =
      subst (λ (y : ℤ). T (in_float binary32 y)) (sym (back z b e)) (in_float_lem (twos_complement 16 half) (omega (arith, signed_mag 16 half (lit≤ tt) h)))

  pub half_over : (by : Float) → div binary32 (of_int binary32 (to_z w64 (of_z w64 z))) by ≡ div binary32 (of_int binary32 (twos_complement 16 half)) by
  half_over by = ap (λ (y : ℤ). div binary32 (of_int binary32 y) by) (back z b e)

-- ---- rounding down

-- -p + r
sum_below : (p r n : ℕ) → p ≡ r + suc n → neg_ℤ (pos p) +ℤ pos r ≡ negsuc n
sum_below zero r n e = absurd (omega arith)
sum_below (suc p) r n e = rw (lt-ltb r (suc p) (omega arith)) (ap negsuc (omega arith))

-- the definitions are "whole hertz rounded down, and 0 to 1,048,575 parts of 2^20"
pub hertz_and_parts : (z : ℤ) → (floor_div z 1048576 *ℤ pos 1048576 +ℤ pos (floor_rem z 1048576) ≡ z) × (floor_rem z 1048576 < 1048576)
hertz_and_parts (pos n) = (ap pos (omega arith), omega arith)
hertz_and_parts (negsuc n) = (sum_below (suc (n / 1048576) * 1048576) (1048576 - suc (n % 1048576)) n (omega arith), omega arith)

-- the machine's division rounds down: r is what it gives
divided_down : (z : ℤ) → int_div_euclid z (pos 1048576) ≡ floor_div z 1048576
divided_down (pos n) = refl
divided_down (negsuc n) = refl

pub floored : (z r : ℤ) → mag z < 2 ^ 63 → mag r < 2 ^ 63 → r ≡ int_div_euclid (to_z w64 (of_z w64 z)) (pos 1048576)
    → to_z w64 (of_z w64 r) ≡ floor_div z 1048576
floored z r h k e = back r k (e ∙ rw (back z h refl) (divided_down z))
