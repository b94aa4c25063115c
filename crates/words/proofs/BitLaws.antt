-- Words bit by bit. The idea: `&`, `|` and `^` go along with shifts and remainders, so a bit of the result is that of the two digits there (`has_and`,
-- `has_or`, `has_xor`); two words that agree at every bit are equal (`word_same`); and a word marked by a test has the bits that pass it (`marked_has`).
use Rattle.words.proofs.Kit.{◌≡◌, refl, sym, ap, ◌∙◌, Bool, true, false, not, ⊎_elim, ℕ, zero, suc, ◌+◌, ◌-◌, ◌*◌, ◌/◌, ◌%◌, ◌^◌, ◌<◌, arith, eqb}
use native.Mathlib.Nat.{add-zero, mod-lt}
use native.Mathlib.Numerals.{one-add}
use lib.Arith.{lt-one}
use lib.Bits.{bit_and, bit_or, bit_xor, and_shr, or_shr, xor_shr, and_mod, or_mod, xor_mod}
use lib.Pow as Pow
use lib.Pow.{pow_pos, shr_lt, shr-shr, field, mod-mod-pow}
use Rattle.words.specs.Tests.{pick, when, both}
use Rattle.words.specs.Word.{has, marked}
use Rattle.words.proofs.Cases.{same_or_not}
use Rattle.words.proofs.PowerLaws.{halves}
use Rattle.words.proofs.SetBitLaws.{has_above}

-- ---- `&` and `|`

and_digits : (x y : ℕ) → x < 2 → y < 2 → eqb (bit_and x y) 1 ≡ both (eqb x 1) (eqb y 1)
and_digits zero zero h g = refl
and_digits zero (suc zero) h g = refl
and_digits (suc zero) zero h g = refl
and_digits (suc zero) (suc zero) h g = refl
and_digits zero (suc (suc y)) h g = absurd (omega arith)
and_digits (suc zero) (suc (suc y)) h g = absurd (omega arith)
and_digits (suc (suc x)) y h g = absurd (omega arith)

pub has_and : (a b k : ℕ) → has (bit_and a b) k ≡ both (has a k) (has b k)
has_and a b k =
    ap (λ (z : ℕ). eqb z 1) (ap (λ (z : ℕ). z % 2) (and_shr a b k) ∙ and_mod (a / 2 ^ k) (b / 2 ^ k) 1)
    ∙ and_digits (a / 2 ^ k % 2) (b / 2 ^ k % 2) (omega arith) (omega arith)

or_digits : (x y : ℕ) → x < 2 → y < 2 → eqb (bit_or x y) 1 ≡ pick (eqb x 1) true (eqb y 1)
or_digits zero zero h g = refl
or_digits zero (suc zero) h g = refl
or_digits (suc zero) zero h g = refl
or_digits (suc zero) (suc zero) h g = refl
or_digits zero (suc (suc y)) h g = absurd (omega arith)
or_digits (suc zero) (suc (suc y)) h g = absurd (omega arith)
or_digits (suc (suc x)) y h g = absurd (omega arith)

pub has_or : (a b k : ℕ) → has (bit_or a b) k ≡ pick (has a k) true (has b k)
has_or a b k =
    ap (λ (z : ℕ). eqb z 1) (ap (λ (z : ℕ). z % 2) (or_shr a b k) ∙ or_mod (a / 2 ^ k) (b / 2 ^ k) 1)
    ∙ or_digits (a / 2 ^ k % 2) (b / 2 ^ k % 2) (omega arith) (omega arith)

xor_digits : (x y : ℕ) → x < 2 → y < 2 → eqb (bit_xor x y) 1 ≡ pick (eqb x 1) (not (eqb y 1)) (eqb y 1)
xor_digits zero zero h g = refl
xor_digits zero (suc zero) h g = refl
xor_digits (suc zero) zero h g = refl
xor_digits (suc zero) (suc zero) h g = refl
xor_digits zero (suc (suc y)) h g = absurd (omega arith)
xor_digits (suc zero) (suc (suc y)) h g = absurd (omega arith)
xor_digits (suc (suc x)) y h g = absurd (omega arith)

pub has_xor : (a b k : ℕ) → has (bit_xor a b) k ≡ pick (has a k) (not (has b k)) (has b k)
has_xor a b k =
    ap (λ (z : ℕ). eqb z 1) (ap (λ (z : ℕ). z % 2) (xor_shr a b k) ∙ xor_mod (a / 2 ^ k) (b / 2 ^ k) 1)
    ∙ xor_digits (a / 2 ^ k % 2) (b / 2 ^ k % 2) (omega arith) (omega arith)

-- one word's bits where a third has its own, and else the other's: as a program merges them
merged_digits : (m w h : Bool) → pick h (not (both (pick h (not w) w) m)) (both (pick h (not w) w) m) ≡ pick m w h
merged_digits true true true = refl
merged_digits true true false = refl
merged_digits true false true = refl
merged_digits true false false = refl
merged_digits false true true = refl
merged_digits false true false = refl
merged_digits false false true = refl
merged_digits false false false = refl

pub merged_bit : (m w h i : ℕ) → has (bit_xor h (bit_and (bit_xor h w) m)) i ≡ pick (has m i) (has w i) (has h i)
merged_bit m w h i =
    has_xor h (bit_and (bit_xor h w) m) i
    ∙ rw (has_and (bit_xor h w) m i, has_xor h w i) (merged_digits (has m i) (has w i) (has h i))

-- a shift down
pub has_down : (n k i : ℕ) → has (n / 2 ^ k) i ≡ has n (k + i)
has_down n k i = ap (λ (z : ℕ). eqb (z % 2) 1) (shr-shr n k i)

-- ---- the bits below k

pub has_low : (n k i : ℕ) → i < k → has (n % 2 ^ k) i ≡ has n i
has_low n k i h =
    let e : k ≡ k - i - 1 + 1 + i = omega arith in
    ap (λ (z : ℕ). eqb z 1)
    (ap (λ (m : ℕ). n % 2 ^ m / 2 ^ i % 2) e ∙ ap (λ (m : ℕ). m % 2) (field n (k - i - 1 + 1) i) ∙ mod-mod-pow (n / 2 ^ i) (k - i - 1) 1)

digit_same : (x y : ℕ) → x < 2 → y < 2 → eqb (x % 2) 1 ≡ eqb (y % 2) 1 → x ≡ y
digit_same zero zero h g e = refl
digit_same zero (suc zero) h g e = let z : ◌≡◌ {A = ℕ} 0 1 = cc in absurd (omega arith)
digit_same (suc zero) zero h g e = let z : ◌≡◌ {A = ℕ} 0 1 = cc in absurd (omega arith)
digit_same (suc zero) (suc zero) h g e = refl
digit_same zero (suc (suc y)) h g e = absurd (omega arith)
digit_same (suc zero) (suc (suc y)) h g e = absurd (omega arith)
digit_same (suc (suc x)) y h g e = absurd (omega arith)

-- two words of k bits with the same bits
pub word_same : (k a b : ℕ) → a < 2 ^ k → b < 2 ^ k → ((i : ℕ) → i < k → has a i ≡ has b i) → a ≡ b
word_same zero a b h g e = lt-one h ∙ sym (lt-one g)
word_same (suc k) a b h g e =
    let top : a / 2 ^ k ≡ b / 2 ^ k =
    digit_same (a / 2 ^ k) (b / 2 ^ k) (shr_lt 1 k (rw one-add h)) (shr_lt 1 k (rw one-add g)) (e k (omega arith)) in
    let low : a % 2 ^ k ≡ b % 2 ^ k =
    word_same k (a % 2 ^ k) (b % 2 ^ k) (mod-lt a (pow_pos k)) (mod-lt b (pow_pos k))
    (λ i l. has_low a k i l ∙ e i (omega arith) ∙ sym (has_low b k i l)) in
    sym (Pow.split a k) ∙ rw (top, low) (Pow.split b k)

-- ---- a word marked bit by bit

when_below : (t : Bool) (k m : ℕ) → m < 2 ^ k → m + when t (2 ^ k) < 2 ^ suc k
when_below true k m h = omega (arith, halves (suc k) (omega arith))
when_below false k m h = omega (arith, halves (suc k) (omega arith))

pub marked_small : (k : ℕ) (f : ℕ → Bool) → marked k f < 2 ^ k
unfolding marked
marked_small zero f = omega arith
marked_small (suc k) f = when_below (f k) k (marked k f) (marked_small k f)

-- the bit that is marked, and those below it
turned : (k m : ℕ) → m + 2 ^ k ≡ 1 * 2 ^ k + m
turned k m = omega arith

when_top : (t : Bool) (k m : ℕ) → m < 2 ^ k → has (m + when t (2 ^ k)) k ≡ t
when_top true k m h =
    let one : (m + 2 ^ k) / 2 ^ k ≡ 1 = ap (λ (x : ℕ). x / 2 ^ k) (turned k m) ∙ Pow.high 1 k h in
    rw one
when_top false k m h = rw (add-zero m) (has_above m k h)

when_under : (t : Bool) (k m b : ℕ) → m < 2 ^ k → b < k → has (m + when t (2 ^ k)) b ≡ has m b
when_under true k m b h l =
    let e : (m + 2 ^ k) % 2 ^ k ≡ m = ap (λ (x : ℕ). x % 2 ^ k) (turned k m) ∙ Pow.low 1 k h in
    sym (has_low (m + 2 ^ k) k b l) ∙ ap (λ (n : ℕ). has n b) e
when_under false k m b h l = rw (add-zero m)

pub marked_has : (k : ℕ) (f : ℕ → Bool) (b : ℕ) → b < k → has (marked k f) b ≡ f b
unfolding marked
marked_has zero f b h = absurd (omega (arith, h))
marked_has (suc k) f b h =
    ⊎_elim (λ (e : b ≡ k). rw e (when_top (f k) k (marked k f) (marked_small k f)))
    (λ (n : b ≡ k → ⊥).
    let l : b < k = omega (arith, h, n) in
    when_under (f k) k (marked k f) b (marked_small k f) l ∙ marked_has k f b l)
    (same_or_not b k)

-- none is marked where no test holds
pub marked_none : (k : ℕ) (f : ℕ → Bool) → ((b : ℕ) → b < k → f b ≡ false) → marked k f ≡ 0
unfolding marked
marked_none zero f e = refl
marked_none (suc k) f e = rw (e k (omega arith), marked_none k f (λ b h. e b (omega arith)))

-- one test, or another that agrees with it
pub marked_same : (k : ℕ) (f g : ℕ → Bool) → ((b : ℕ) → b < k → f b ≡ g b) → marked k f ≡ marked k g
marked_same k f g e =
    word_same k (marked k f) (marked k g) (marked_small k f) (marked_small k g) (λ i h. marked_has k f i h ∙ e i h ∙ sym (marked_has k g i h))
