-- Laws of `span`, once over the width of the digits. The idea: a span of j + k bits is one of j bits and then one of k (`split`), so its left part is a
-- quotient and its right part a remainder by 2 ^ k (`first`, `last`). Callers cite these laws and never unfold `span`.
use Rattle.words.proofs.Kit.{◌≡◌, refl, sym, ap, ap₂, ◌∙◌, ℕ, zero, suc, ◌+◌, ◌-◌, ◌*◌, ◌/◌, ◌%◌, ◌^◌, ◌≤◌, ◌<◌, arith}
use native.Mathlib.Nat.{le-div_iff_mul-le, zero-div, add-zero, add-suc, add_assoc, mul_assoc, add-mul, mul-one, mod-one, mod-lt}
use native.Mathlib.Nat.{mod-eq_of_lt, pow-suc, mul_comm, div-add-mod', div-lt_iff_lt-mul, div-one, zero-lt-suc}
use native.Mathlib.Numerals.{add-one}
use lib.Arith.{digits_lt, digits_div, digits_mod}
use lib.Pow.{shr-shr, high, low, mod-pow-add}
use Rattle.bitstream.specs.Stream.{bit, span}

-- ---- cut and joined
bit_below : (b : ℕ) (g : ℕ → ℕ) (i : ℕ) → bit b g i < 2
unfolding bit
bit_below b g i = mod-lt (g (i / b) / 2 ^ (b - (i % b + 1))) (zero-lt-suc 1)

module _ (b : ℕ) (g : ℕ → ℕ) where
  pub none : (p : ℕ) → span b g p 0 ≡ 0
  unfolding span
  none p = refl

  pub below : (p n : ℕ) → span b g p n < 2 ^ n
  unfolding span
  below p zero = zero-lt-suc 0
  below p (suc n) = rw (pow-suc 2 n) (digits_lt (below p n) (bit_below b g (p + n)))

  -- j + k bits are j bits, then k
  pub split : (p j k : ℕ) → span b g p (j + k) ≡ span b g p j * 2 ^ k + span b g (p + j) k
  unfolding span
  split p j zero = rw add-zero (sym (add-zero (span b g p j * 1) ∙ mul-one (span b g p j)))
  split p j (suc k) =
      ap (span b g p) (add-suc j k)
      ∙ ap₂ (λ (x y : ℕ). x * 2 + bit b g y) (split p j k) (sym (add_assoc p j k))
      ∙ ap (λ (x : ℕ). x + bit b g (p + j + k)) (add-mul (span b g p j * 2 ^ k) (span b g (p + j) k) 2)
      ∙ add_assoc (span b g p j * 2 ^ k * 2) (span b g (p + j) k * 2) (bit b g (p + j + k))
      ∙ ap (λ (x : ℕ). x + span b g (p + j) (suc k)) (mul_assoc (span b g p j) (2 ^ k) 2 ∙ ap (λ (x : ℕ). span b g p j * x) (sym (pow-suc 2 k)))

  -- the first j of j + k bits, and the last k
  pub first : (p j k : ℕ) → span b g p (j + k) / 2 ^ k ≡ span b g p j
  first p j k = ap (λ (x : ℕ). x / 2 ^ k) (split p j k) ∙ high (span b g p j) k (below (p + j) k)

  pub last : (p j k : ℕ) → span b g p (j + k) % 2 ^ k ≡ span b g (p + j) k
  last p j k = ap (λ (x : ℕ). x % 2 ^ k) (split p j k) ∙ low (span b g p j) k (below (p + j) k)

  -- a span within a span
  pub within : (p n o f : ℕ) → o + f ≤ n → span b g p n / 2 ^ (n - (o + f)) % 2 ^ f ≡ span b g (p + o) f
  within p n o f h =
      let e : o + f + (n - (o + f)) ≡ n = omega arith in
      ap (λ (x : ℕ). span b g p x / 2 ^ (n - (o + f)) % 2 ^ f) (sym e)
      ∙ ap (λ (x : ℕ). x % 2 ^ f) (first p (o + f) (n - (o + f)))
      ∙ last p o f

  -- ---- by the digits
  bit_in : (i o : ℕ) → o < b → bit b g (i * b + o) ≡ g i / 2 ^ (b - (o + 1)) % 2
  unfolding bit
  bit_in i o h = ap₂ (λ (x y : ℕ). g x / 2 ^ (b - (y + 1)) % 2) (digits_div i h) (digits_mod i h)

  -- bits that lie within digit i
  pub inside : (i o n : ℕ) → o + n ≤ b → span b g (i * b + o) n ≡ g i / 2 ^ (b - (o + n)) % 2 ^ n
  unfolding span
  inside i o zero h = sym (mod-one (g i / 2 ^ (b - (o + 0))))
  inside i o (suc n) h =
      let l : o + n < b = omega arith in
      let e : b - (o + (n + 1)) + 1 ≡ b - (o + n) = omega arith in
      let e' : b - (o + n + 1) ≡ b - (o + (n + 1)) = omega arith in
      let e'' : b - (o + suc n) ≡ b - (o + (n + 1)) = omega arith in
      let s : suc n ≡ n + 1 = omega arith in
      let x : ℕ = g i / 2 ^ (b - (o + (n + 1))) in
      ap₂ (λ (y z : ℕ). y * 2 + z)
      (inside i o n (omega arith) ∙ ap (λ (y : ℕ). g i / 2 ^ y % 2 ^ n) (sym e) ∙ ap (λ (y : ℕ). y % 2 ^ n) (sym (shr-shr (g i) (b - (o + (n + 1))) 1)))
      (ap (bit b g) (add_assoc (i * b) o n) ∙ bit_in i (o + n) l ∙ ap (λ (y : ℕ). g i / 2 ^ y % 2) e')
      ∙ sym (mod-pow-add x n 1)
      ∙ ap₂ (λ (y z : ℕ). g i / 2 ^ y % 2 ^ z) (sym e'') (sym s)

  -- digit i, whole
  pub whole : (i : ℕ) → g i < 2 ^ b → span b g (i * b) b ≡ g i
  whole i h =
      let e : b - (0 + b) ≡ 0 = omega arith in
      ap (λ (x : ℕ). span b g x b) (sym (add-zero (i * b)))
      ∙ inside i 0 b (omega arith)
      ∙ ap (λ (x : ℕ). g i / 2 ^ x % 2 ^ b) e
      ∙ ap (λ (x : ℕ). x % 2 ^ b) (div-one (g i))
      ∙ mod-eq_of_lt h

  -- bit j of a span
  pub at : (p j k : ℕ) → span b g p (j + 1 + k) / 2 ^ k % 2 ≡ bit b g (p + j)
  unfolding span
  at p j k =
      ap (λ (x : ℕ). x % 2) (first p (j + 1) k)
      ∙ ap (λ (x : ℕ). span b g p x % 2) (add-one j)
      ∙ digits_mod (span b g p j) (bit_below b g (p + j))

-- what lies below bit m * b is of the digits below m
pub same : (b m : ℕ) (g h : ℕ → ℕ) → 0 < b → ((j : ℕ) → j < m → g j ≡ h j) → (p n : ℕ) → p + n ≤ m * b → span b g p n ≡ span b h p n
unfolding span bit
same b m g h pb e p zero l = refl
same b m g h pb e p (suc n) l =
    ap₂ (λ (x y : ℕ). x * 2 + y / 2 ^ (b - ((p + n) % b + 1)) % 2)
    (same b m g h pb e p n (omega arith))
    (e ((p + n) / b) ((div-lt_iff_lt-mul pb).1 (omega arith)))

-- no bit is set from digit n on where those digits are 0
pub blank : (b n : ℕ) (g : ℕ → ℕ) → 0 < b → ((j : ℕ) → n ≤ j → g j ≡ 0) → (p k : ℕ) → n * b ≤ p → span b g p k ≡ 0
unfolding span bit
blank b n g pb z p zero l = refl
blank b n g pb z p (suc k) l =
    let e : g ((p + k) / b) ≡ 0 = z ((p + k) / b) ((le-div_iff_mul-le pb).1 (omega arith)) in
    ap₂ (λ (x y : ℕ). x * 2 + y / 2 ^ (b - ((p + k) % b + 1)) % 2) (blank b n g pb z p k l) e
    ∙ ap (λ (x : ℕ). 0 * 2 + x % 2) (zero-div (2 ^ (b - ((p + k) % b + 1))))

pub zero_bits : (b : ℕ) (g : ℕ → ℕ) (q : ℕ) → ((i : ℕ) → q ≤ i → bit b g i ≡ 0) → (p n : ℕ) → q ≤ p → span b g p n ≡ 0
unfolding span
zero_bits b g q z p zero l = refl
zero_bits b g q z p (suc n) l = ap₂ (λ (x y : ℕ). x * 2 + y) (zero_bits b g q z p n l) (z (p + n) (omega arith))

-- ---- the same stream in digits of another width
pub regroup_bit : (b c : ℕ) (g : ℕ → ℕ) (i : ℕ) → 0 < c → bit c (λ j. span b g (c * j) c) i ≡ bit b g i
unfolding bit
regroup_bit b c g i pc =
    let l : i % c < c = mod-lt i pc in
    let e : i % c + 1 + (c - (i % c + 1)) ≡ c = omega arith in
    ap (λ (x : ℕ). span b g (c * (i / c)) x / 2 ^ (c - (i % c + 1)) % 2) (sym e)
    ∙ at b g (c * (i / c)) (i % c) (c - (i % c + 1))
    ∙ ap (bit b g) (ap (λ (x : ℕ). x + i % c) (mul_comm c (i / c)) ∙ div-add-mod' i c)

pub regroup : (b c : ℕ) (g : ℕ → ℕ) → 0 < c → (p n : ℕ) → span c (λ j. span b g (c * j) c) p n ≡ span b g p n
unfolding span
regroup b c g pc p zero = refl
regroup b c g pc p (suc n) = ap₂ (λ (x y : ℕ). x * 2 + y) (regroup b c g pc p n) (regroup_bit b c g (p + n) pc)
