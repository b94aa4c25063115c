-- The bit pattern of a level, a gain or a temperature: sign, exponent and fraction fields as whole numbers, zero being all zero bits. The idea: n has `size n`
-- bits, so its fraction field is n moved up to 24 bits without the first of them, and the exponent field counts from there.
use Rattle.words.proofs.Kit.{◌≡◌, refl, sym, ap, ◌∙◌, subst, ℕ, zero, suc, ◌+◌, ◌-◌, ◌*◌, ◌/◌, ◌^◌, ◌≤◌, ◌<◌, arith, Bool, true, false}
use native.Mathlib.Nat.{mul_assoc, mul-le-mul_right, lt_of_lt_of_le, lt_of_not-le, not-le_of_lt}
use mathlib.Core.Bool.{cond}
use lib.IntN.{ℤ, pos, negsuc, nat_abs}
use lib.Dec.{lit≤}
use lib.Signed.{mag}
use lib.Pow.{pow-add, pow_pos, pow_mono, shl_lt, shl-shr}
use lib.Ieee.{binary32, size, odd, to_bits}
use lib.Ieee.Digits.{size-lt, size-le, size_reaches}
use lib.Ieee.Exact.{odd_sign}
use Rattle.panel.specs.Values.{share, over}
use Rattle.panel.specs.Pattern.{sign_field, exponent_field, fraction_field}
use Rattle.words.specs.Signed.{twos_complement}
use Rattle.words.proofs.PowerLaws.{signed_mag}
use Rattle.panel.proofs.Quotient.{pattern, bits_of, share_odd}

-- ---- how many bits a number has
size_pos : (n : ℕ) → 0 < n → 0 < size n
size_pos n h = lt_of_not-le (λ (g : size n ≤ 0). not-le_of_lt (lt_of_lt_of_le (size-lt n) (pow_mono {i = size n} {j = 0} g)) h)

size_shift : (n j : ℕ) → 0 < n → size (n * 2 ^ j) ≡ size n + j
size_shift n j h =
    let z = size n in
    let p = size_pos n h in
    let up : size (n * 2 ^ j) ≤ z + j = size-le (n * 2 ^ j) (z + j) (shl_lt z j (size-lt n)) in
    let lo : 2 ^ (z - 1) ≤ n = size_reaches n (z - 1) (omega arith) in
    let lo' : 2 ^ (z - 1 + j) ≤ n * 2 ^ j = subst (λ (x : ℕ). x ≤ n * 2 ^ j) (sym (pow-add 2 (z - 1) j)) (mul-le-mul_right (2 ^ j) lo) in
    let dn : z - 1 + j < size (n * 2 ^ j) =
    lt_of_not-le (λ (g : size (n * 2 ^ j) ≤ z - 1 + j). not-le_of_lt
    (lt_of_lt_of_le (size-lt (n * 2 ^ j)) (pow_mono {i = size (n * 2 ^ j)} {j = z - 1 + j} g)) lo') in
    omega arith

-- ---- a number that is not zero
fields : (k : ℕ) (s : Bool) (n : ℕ) → k ≤ 125 → 0 < n → n < 2 ^ 24
    → to_bits binary32 (share k s n) ≡ cond s (2 ^ 31) 0 + (size n + 126 - k) * 2 ^ 23 + (n * 2 ^ (24 - size n) - 2 ^ 23)
unfolding pattern
fields k s n hk hp h =
    let j = 149 - k in
    let e : j + k ≡ 149 = omega arith in
    let z = size n in
    let zp = size_pos n hp in
    let z24 : z ≤ 24 = size-le n 24 h in
    let d = z + 125 - k in
    let q = 24 - z in
    let m = n * 2 ^ j in
    let big : 8388608 ≤ n * 2 ^ q =
    subst (λ (x : ℕ). x ≤ n * 2 ^ q) (sym (pow-add 2 (z - 1) q) ∙ ap (λ (x : ℕ). 2 ^ x) {x = z - 1 + q} {y = 23} (omega arith))
    (mul-le-mul_right (2 ^ q) (size_reaches n (z - 1) (omega arith))) in
    let dropped : size m - 24 ≡ d = ap (λ (x : ℕ). x - 24) (size_shift n j hp) ∙ omega arith in
    let kept : m / 2 ^ d ≡ n * 2 ^ q =
    ap (λ (x : ℕ). n * x / 2 ^ d) (ap (λ (x : ℕ). 2 ^ x) {x = j} {y = q + d} (omega arith) ∙ pow-add 2 q d)
    ∙ ap (λ (x : ℕ). x / 2 ^ d) (sym (mul_assoc n (2 ^ q) (2 ^ d)))
    ∙ shl-shr (n * 2 ^ q) d in
    ap (to_bits binary32) (share_odd j k s n e)
    ∙ bits_of binary32 (odd 24 s n j 149) s m (2 ^ 149) (pow_pos 149) (odd_sign 24 s n j 149)
    ∙ ap (pattern binary32 s) (shl-shr m 149)
    ∙ ap (λ (x : ℕ). cond s 2147483648 0 + x * 8388608 + m / 2 ^ x) dropped
    ∙ ap (λ (x : ℕ). cond s 2147483648 0 + d * 8388608 + x) kept
    ∙ omega arith

-- ---- the three fields of z over 2 ^ k

-- the fields have 8 and 23 bits
pub fields_fit : (k n : ℕ) → n < 2 ^ 24 → (exponent_field k n < 2 ^ 8) × (fraction_field n < 2 ^ 23)
unfolding exponent_field fraction_field
fields_fit k zero h = (omega arith, omega arith)
fields_fit k (suc n) h =
    let z = size (suc n) in
    let z24 : z ≤ 24 = size-le (suc n) 24 h in
    let most : suc n * 2 ^ (24 - z) < 2 ^ 24 =
    subst (λ (x : ℕ). suc n * 2 ^ (24 - z) < 2 ^ x) {x = z + (24 - z)} {y = 24} (omega arith) (shl_lt z (24 - z) (size-lt (suc n))) in
    (omega arith, omega arith)

zero_pattern : (k : ℕ) → to_bits binary32 (share k false 0) ≡ 0
unfolding share to_bits size
zero_pattern k = refl

over_pattern : (k : ℕ) (z : ℤ) → k ≤ 125 → nat_abs z < 2 ^ 24
    → to_bits binary32 (over k z) ≡ sign_field z * 2 ^ 31 + exponent_field k (nat_abs z) * 2 ^ 23 + fraction_field (nat_abs z)
unfolding over sign_field exponent_field fraction_field
over_pattern k (pos zero) hk h = zero_pattern k
over_pattern k (pos (suc n)) hk h = fields k false (suc n) hk (omega arith) h
over_pattern k (negsuc n) hk h = fields k true (suc n) hk (omega arith) h

-- ---- a signed half over 2 ^ k: a level or a gain where k is 7, a temperature where k is 6
pub half_pattern : (k half : ℕ) → k ≤ 125 → half < 2 ^ 16
    → let z = twos_complement 16 half in
    to_bits binary32 (over k z) ≡ sign_field z * 2 ^ 31 + exponent_field k (nat_abs z) * 2 ^ 23 + fraction_field (nat_abs z)
half_pattern k half hk h =
    let z = twos_complement 16 half in
    over_pattern k z hk (near z (signed_mag 16 half (lit≤ tt) h))
  where
    near : (z : ℤ) → mag z < 2 ^ 15 → nat_abs z < 2 ^ 24
    near (pos n) b = omega arith
    near (negsuc n) b = omega arith
