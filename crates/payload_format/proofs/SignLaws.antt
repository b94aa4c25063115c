-- The two's complement value of an item, as the machine has it: an item whose sign bit is 0 is itself, and any other is the bits of its distance to
-- 2 ^ w - 1 turned over, which is that distance and 1 below zero.
use Rattle.words.proofs.Kit.{◌≡◌, ap, ℕ, suc, ◌+◌, ◌-◌, ◌^◌, ◌≤◌, ◌<◌, arith, lt-ltb, le-ltb, lt-leb}
use lib.Pow.{pow_mono}
use lib.IntN.{negsuc}
use mir.Syntax.{w64}
use mir.Val.{to_z}
use Rattle.words.specs.Outcome.{accepted}
use Rattle.words.proofs.PowerLaws.{halves, signed_low, signed_high}
use Rattle.payload_format.specs.Signs.{signed_of}

module _ (w x : ℕ) (lo : 1 ≤ w) (hi : w ≤ 64) where
  half_most : 2 ^ (w - 1) ≤ 2 ^ 63
  half_most = pow_mono {i = w - 1} {j = 63} (omega arith)

  -- the sign bit is 0
  pub sign_zero : x < 2 ^ (w - 1) → accepted (to_z w64 x) ≡ signed_of w x
  unfolding signed_of
  sign_zero l =
      let a : x < 2 ^ 63 = omega (arith, half_most) in
      let b : x < 2 ^ w = omega (arith, halves w lo) in
      simp (lt-ltb x (2 ^ 63) a, le-ltb w 1 lo, le-ltb 64 w hi, lt-leb (2 ^ w) x b, signed_low w x l)

  -- the sign bit is 1
  pub sign_one : 2 ^ (w - 1) ≤ x → x < 2 ^ w → (c : ℕ) → c + x + 1 ≡ 2 ^ w → accepted (to_z w64 (2 ^ 64 - 1 - c)) ≡ signed_of w x
  unfolding signed_of
  sign_one l b c e =
      let t : 2 ^ (w - 1) ≤ 2 ^ 63 = half_most in
      let a : 2 ^ 63 ≤ 2 ^ 64 - 1 - c = omega (arith, halves w lo) in
      let q : 2 ^ 64 - suc (2 ^ 64 - 1 - c) ≡ 2 ^ w - suc x = omega (arith, halves w lo) in
      simp (le-ltb (2 ^ 64 - 1 - c) (2 ^ 63) a, le-ltb w 1 lo, le-ltb 64 w hi, lt-leb (2 ^ w) x b, signed_high w x l b)
      (ap (λ (n : ℕ). accepted (negsuc n)) q)
