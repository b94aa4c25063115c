-- A whole number below 2 ^ 24, as a float, over 2 ^ k is the definition's float: sign, odd fraction and exponent. The idea: both fit and have one value, and
-- two floats that fit and have one sign and value are equal, since the bit pattern sees nothing else.
use Rattle.words.proofs.Kit.{◌≡◌, refl, sym, ap, subst, ◌∙◌, ℕ, zero, suc, ◌+◌, ◌-◌, ◌*◌, ◌/◌, ◌^◌, ◌≤◌, ◌<◌, arith, Bool, true, false, not, leb}
use Rattle.words.proofs.Kit.{le-leb, lt-leb}
use native.Mathlib.Nat.{mul-one, one-mul, mul_comm, mul_assoc, mul_right_comm, mul-pos, lt_of_lt_of_le, le_of_lt}
use mathlib.Core.Bool.{cond}
use lib.Dec.{T, lit<, lit≤}
use lib.Pow.{pow-add, pow_pos, pow_mono, shl_lt}
use lib.IntN.{ℤ, pos, negsuc, nat_abs}
use lib.Signed.{mag, non_neg}
use lib.Count.{count_trailing_zeros}
use lib.Ieee.{Float, nan, inf, fin, Format, binary32, prec, low, up, down, hid, top, size, odd, round, minus, unlike, div, of_int, to_bits, of_bits, fits}
use lib.Ieee.Fits.{odd-fits, round-fits, down_pos}
use lib.Ieee.Bits.{of_bits-to_bits}
use lib.Ieee.Exact.{HasValue, odd_sign, round_exact}
use lib.Ieee.Nearest.{div_same}
use lib.Ieee.Scale.{round_same}
use borrow.Author.Tests.{leb-true, leb-false}
use Rattle.panel.specs.Values.{share, over}

-- ---- a float that fits is fixed by its sign and its value
unfoldable pub pattern : Format → Bool → ℕ → ℕ
pattern f s n = let k = size n - prec f in cond s (top f) 0 + k * hid f + n / 2 ^ k

pub bits_of : (f : Format) (x : Float) (s : Bool) (a c : ℕ) → 0 < c → HasValue x s a c → to_bits f x ≡ pattern f s (a * 2 ^ low f / c)
unfolding pattern to_bits
bits_of f nan s a c p v = absurd v
bits_of f (inf t) s a c p v = absurd v
bits_of f (fin t m e) s a c p v =
    let l = 2 ^ low f in
    let same : m * up e * l / down e ≡ a * l / c =
    div_same (m * up e * l) (down e) (a * l) c (down_pos e) p
    (mul_right_comm (m * up e) l c ∙ ap (λ (x : ℕ). x * l) v.1 ∙ mul_right_comm a (down e) l) in
    ap (λ (b : Bool). pattern f b (m * up e * l / down e)) v.0 ∙ ap (pattern f s) same

pub same_value : (f : Format) (x y : Float) (s : Bool) (a c : ℕ) → 0 < c → T (fits f x) → T (fits f y) → HasValue x s a c → HasValue y s a c → x ≡ y
same_value f x y s a c p fx fy vx vy =
    sym (of_bits-to_bits f x fx)
    ∙ ap (of_bits f) (bits_of f x s a c p vx ∙ sym (bits_of f y s a c p vy))
    ∙ of_bits-to_bits f y fy

-- ---- the definition's exponent, and that of `odd` in units of the smallest value
minus_shift : (x a b : ℕ) → minus (x + a) (x + b) ≡ minus a b
minus_shift x a b = go (leb b a) refl
  where
    go : (t : Bool) → leb b a ≡ t → minus (x + a) (x + b) ≡ minus a b
    go true h = let k : b ≤ a = leb-true b a h in
        rw h (rw (le-leb (x + b) (x + a) (omega arith)) (ap pos (omega arith)))
    go false h = let k : a < b = leb-false b a h in
        rw h (rw (lt-leb (x + b) (x + a) (omega arith)) (ap negsuc (omega arith)))

pub share_odd : (j k : ℕ) (s : Bool) (n : ℕ) → j + k ≡ 149 → share k s n ≡ odd 24 s n j 149
unfolding share odd
share_odd j k s zero e = refl
share_odd j k s (suc n) e =
    let t = count_trailing_zeros 24 (suc n) in
    ap (λ (x : ℤ). fin s (suc n / 2 ^ t) x) (sym (ap (minus (j + t)) (sym e) ∙ minus_shift j t k))

-- ---- exact
units_below : (n j : ℕ) → n < 2 ^ 24 → j ≤ 149 → n * 2 ^ j < 2 ^ 277
units_below n j h k = lt_of_lt_of_le (shl_lt 24 j h) (pow_mono {i = 24 + j} {j = 277} (omega arith))

-- the quotient that the format keeps has its value
round_value : (k : ℕ) (s : Bool) (n : ℕ) → k ≤ 149 → n < 2 ^ 24 → HasValue (round binary32 s n (2 ^ k)) s n (2 ^ k)
round_value k s n hk h =
    let j = 149 - k in
    let p : 2 ^ 149 ≡ 2 ^ j * 2 ^ k = ap (λ (x : ℕ). 2 ^ x) {x = 149} {y = j + k} (omega arith) ∙ pow-add 2 j k in
    round_exact binary32 s n (2 ^ k) n j (pow_pos k) h (units_below n j h (omega arith)) (ap (λ (x : ℕ). n * x) p ∙ sym (mul_assoc n (2 ^ j) (2 ^ k)))

share_is : (k : ℕ) (s : Bool) (n : ℕ) → k ≤ 149 → n < 2 ^ 24 → round binary32 s n (2 ^ k) ≡ share k s n
share_is k s n hk h =
    let j = 149 - k in
    let e : j + k ≡ 149 = omega arith in
    let p : 2 ^ 149 ≡ 2 ^ j * 2 ^ k = ap (λ (x : ℕ). 2 ^ x) (sym e) ∙ pow-add 2 j k in
    same_value binary32 (round binary32 s n (2 ^ k)) (odd 24 s n j 149) s (n * 2 ^ j) (2 ^ 149) (pow_pos 149)
    (round-fits binary32 s n (2 ^ k)) (odd-fits binary32 24 s n j h (le_of_lt h) (units_below n j h (omega arith)))
    (scaled (round binary32 s n (2 ^ k)) (2 ^ j) (2 ^ k) (2 ^ 149) p (round_value k s n hk h))
    (odd_sign 24 s n j 149)
    ∙ sym (share_odd j k s n e)
  where
    scaled : (x : Float) (a b c : ℕ) → c ≡ a * b → HasValue x s n b → HasValue x s (n * a) c
    scaled nan a b c e v = v
    scaled (inf t) a b c e v = v
    scaled (fin t m e) a b c q v = (
      v.0,
      ap (λ (x : ℕ). m * up e * x) (q ∙ mul_comm a b) ∙ sym (mul_assoc (m * up e) b a) ∙ ap (λ (x : ℕ). x * a) v.1 ∙ mul_right_comm n (down e) a,
    )

-- the definition's float is z over 2 ^ k, exactly
pub over_exact : (k : ℕ) (z : ℤ) → k ≤ 149 → nat_abs z < 2 ^ 24 → HasValue (over k z) (not (non_neg z)) (nat_abs z) (2 ^ k)
unfolding over
over_exact k (pos n) hk h = subst (λ (x : Float). HasValue x false n (2 ^ k)) (share_is k false n hk h) (round_value k false n hk h)
over_exact k (negsuc n) hk h = subst (λ (x : Float). HasValue x true (suc n) (2 ^ k)) (share_is k true (suc n) hk h) (round_value k true (suc n) hk h)

-- ---- the quotient
unlike_false : (s : Bool) → unlike s false ≡ s
unlike_false true = refl
unlike_false false = refl

div_is : (x : Float) (k : ℕ) (s : Bool) (n : ℕ) → HasValue x s n 1 → div binary32 x (fin false 1 (pos k)) ≡ round binary32 s n (2 ^ k)
unfolding div
div_is nan k s n v = absurd v
div_is (inf t) k s n v = absurd v
div_is (fin t m e) k s n v =
    ap (λ (b : Bool). round binary32 b (m * up e * 1) (1 * 2 ^ k * down e)) (unlike_false t ∙ v.0)
    ∙ round_same binary32 s (m * up e * 1) (1 * 2 ^ k * down e) n (2 ^ k) (mul-pos (mul-pos (lit< tt) (pow_pos k)) (down_pos e)) (pow_pos k)
    (ap (λ (x : ℕ). x * 2 ^ k) v.1 ∙ mul_right_comm n (down e) (2 ^ k) ∙ mul_assoc n (2 ^ k) (down e)
    ∙ ap (λ (x : ℕ). n * (x * down e)) (sym (one-mul (2 ^ k))))

whole_value : (s : Bool) (n : ℕ) → n < 2 ^ 24 → HasValue (round binary32 s n 1) s n 1
whole_value s n h = round_exact binary32 s n 1 n 149 (lit< tt) h (units_below n 149 h (lit≤ tt)) (sym (mul-one (n * 2 ^ 149)))

pub quotient : (k : ℕ) (z : ℤ) → k ≤ 149 → mag z + 1 < 2 ^ 24 → div binary32 (of_int binary32 z) (fin false 1 (pos k)) ≡ over k z
unfolding of_int over
quotient k (pos n) hk h =
    let b : n < 2 ^ 24 = omega arith in
    div_is _ k false n (whole_value false n b) ∙ share_is k false n hk b
quotient k (negsuc n) hk h =
    let b : suc n < 2 ^ 24 = omega arith in
    div_is _ k true (suc n) (whole_value true (suc n) b) ∙ share_is k true (suc n) hk b
