-- An accumulator of w bits whose last `have` bits are a span. The idea: what stands above them is never looked at, so it need not be cleared; bits are
-- put behind them by a shift that may lose high bits (`appended`), and taken from their left by a shift and a remainder (`taken`, `left`).
use Rattle.words.proofs.Kit.{◌≡◌, sym, ap, ap₂, ◌∙◌, ℕ, ◌+◌, ◌-◌, ◌*◌, ◌/◌, ◌%◌, ◌^◌, ◌≤◌, ◌<◌, arith}
use native.Mathlib.Nat.{add-zero, mul-mod_left, mod-lt}
use lib.Arith.{digits_lt}
use lib.Pow.{pow_pos, pow-add, high, low, mod-pow-add, mod-mod-pow, shl-shr, field}
use Rattle.bitstream.specs.Stream.{span}
use Rattle.bitstream.proofs.SpanLaws.{split, first, last}

-- a shift to the left within w bits, by its digits
shifted : (x k w : ℕ) → k ≤ w → (x * 2 ^ k) % 2 ^ w ≡ (x % 2 ^ (w - k)) * 2 ^ k
shifted x k w h =
    let e : w ≡ w - k + k = omega arith in
    ap (λ (y : ℕ). (x * 2 ^ k) % 2 ^ y) e
    ∙ mod-pow-add (x * 2 ^ k) (w - k) k
    ∙ ap₂ (λ (y z : ℕ). y % 2 ^ (w - k) * 2 ^ k + z) (shl-shr x k) (mul-mod_left x (2 ^ k))
    ∙ add-zero (x % 2 ^ (w - k) * 2 ^ k)

-- the bits v of k behind the bits of x
pub append_below : (x v k w : ℕ) → k ≤ w → v < 2 ^ k → (x * 2 ^ k) % 2 ^ w + v < 2 ^ w
append_below x v k w h l =
    let e : w - k + k ≡ w = omega arith in
    let b : (x % 2 ^ (w - k)) * 2 ^ k + v < 2 ^ (w - k) * 2 ^ k = digits_lt (mod-lt x (pow_pos (w - k))) l in
    let q : 2 ^ (w - k) * 2 ^ k ≡ 2 ^ w = sym (pow-add 2 (w - k) k) ∙ ap (λ (y : ℕ). 2 ^ y) e in
    rw (shifted x k w h, ← q) b

append_low : (x v have k w : ℕ) → have + k ≤ w → v < 2 ^ k → ((x * 2 ^ k) % 2 ^ w + v) % 2 ^ (have + k) ≡ (x % 2 ^ have) * 2 ^ k + v
append_low x v have k w h l =
    let y : ℕ = x % 2 ^ (w - k) in
    let e : w - k ≡ w - k - have + have = omega arith in
    ap (λ (z : ℕ). (z + v) % 2 ^ (have + k)) (shifted x k w (omega arith))
    ∙ mod-pow-add (y * 2 ^ k + v) have k
    ∙ ap₂ (λ (z z' : ℕ). z % 2 ^ have * 2 ^ k + z') (high y k l) (low y k l)
    ∙ ap (λ (z : ℕ). z * 2 ^ k + v) (ap (λ (z : ℕ). x % 2 ^ z % 2 ^ have) e ∙ mod-mod-pow x (w - k - have) have)

module _ (b : ℕ) (g : ℕ → ℕ) (x p have : ℕ) (e : x % 2 ^ have ≡ span b g p have) where
  pub appended : (v k w : ℕ) → have + k ≤ w → v < 2 ^ k → v ≡ span b g (p + have) k → ((x * 2 ^ k) % 2 ^ w + v) % 2 ^ (have + k) ≡ span b g p (have + k)
  appended v k w h l q = append_low x v have k w h l ∙ ap₂ (λ (y z : ℕ). y * 2 ^ k + z) e q ∙ sym (split b g p have k)

  -- the first k of the bits, and those that are left
  module _ (k : ℕ) (l : k ≤ have) where
    sum : k + (have - k) ≡ have
    sum = omega arith

    pub taken : x / 2 ^ (have - k) % 2 ^ k ≡ span b g p k
    taken =
        sym (field x k (have - k))
        ∙ ap (λ (y : ℕ). x % 2 ^ y / 2 ^ (have - k)) sum
        ∙ ap (λ (y : ℕ). y / 2 ^ (have - k)) (e ∙ ap (span b g p) (sym sum))
        ∙ first b g p k (have - k)

    pub left : x % 2 ^ (have - k) ≡ span b g (p + k) (have - k)
    left =
        sym (mod-mod-pow x k (have - k))
        ∙ ap (λ (y : ℕ). x % 2 ^ y % 2 ^ (have - k)) sum
        ∙ ap (λ (y : ℕ). y % 2 ^ (have - k)) (e ∙ ap (span b g p) (sym sum))
        ∙ last b g p k (have - k)

-- the last k bits of x, at the left of a word
pub word_left : (x k : ℕ) → k ≤ 32 → (x * 2 ^ (32 - k)) % 2 ^ 64 % 2 ^ 32 ≡ (x % 2 ^ k) * 2 ^ (32 - k)
word_left x k h =
    let e : 32 - (32 - k) ≡ k = omega arith in
    mod-mod-pow (x * 2 ^ (32 - k)) 32 32 ∙ shifted x (32 - k) 32 (omega arith) ∙ ap (λ (y : ℕ). (x % 2 ^ y) * 2 ^ (32 - k)) e
