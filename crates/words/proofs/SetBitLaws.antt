-- The set bits of a number. The idea: the list begins with the number's highest set bit, which `leading_zeros` names, and goes on as the list of
-- the number without it; so a loop that takes the highest bit off walks the list. Stated over any width.
use Rattle.words.proofs.Kit.{◌≡◌, refl, sym, ap, ◌∙◌, Bool, true, false, ⊎_elim, List, [], ◌∷◌, ◌++◌, ℕ, zero, suc, ◌+◌, ◌-◌, ◌*◌, ◌/◌, ◌%◌}
use Rattle.words.proofs.Kit.{◌^◌, ◌≤◌, ◌<◌, arith, lt-ltb, le-ltb, eqb, ltb, length}
use Prim.Native.Nat.{zero-le}
use native.Mathlib.Nat.{pow-suc, le_of_lt, lt_of_lt_of_le, div-eq_of_lt, div-eq_of_lt-le, add-mul-div_right, add-mul-mod_self_right, mul_assoc}
use native.Mathlib.Nat.{mul_comm, mod-lt, mod-eq_of_lt, mod-one, one-mul, lt_of_le_of_lt, le_of_suc-le-suc, add_comm, zero-add}
use native.Mathlib.Numerals.{one-add}
use native.Mathlib.Decide.{le_ind}
use lib.Pow as Pow
use lib.Pow.{pow_mono, pow_pos, pow-add, mod-pow-add, shl-shr, shr-shr}
use lib.Count.{ones, ones_cat, count_leading_zeros, leading_top}
use Rattle.words.specs.Tests.{pick}
use Rattle.words.specs.Word.{has}
use Rattle.words.specs.SetBits.{bits_of, above}
use Rattle.words.proofs.Cases.{le_or_lt}

-- ---- none, and one bit more
pub bits_zero : (n : ℕ) → bits_of 0 n ≡ []
unfolding bits_of
bits_zero n = refl

pub bits_yes : (k n : ℕ) → has n k ≡ true → bits_of (suc k) n ≡ k ∷ bits_of k n
unfolding bits_of
bits_yes k n e = rw e

pub bits_no : (k n : ℕ) → has n k ≡ false → bits_of (suc k) n ≡ bits_of k n
unfolding bits_of
bits_no k n e = rw e

-- ---- bits that are not there
pub has_above : (n k : ℕ) → n < 2 ^ k → has n k ≡ false
has_above n k h = rw (div-eq_of_lt h)

-- a number below 2 ^ j has no set bit from j up
pub bits_trim : (j k n : ℕ) → j ≤ k → n < 2 ^ j → bits_of k n ≡ bits_of j n
unfolding bits_of
bits_trim j k n le h = le_ind (λ (m : ℕ). bits_of m n ≡ bits_of j n) refl (λ m q e. rw (has_above n m (lt_of_lt_of_le h (pow_mono q))) e) k le

pub bits_none : (k n : ℕ) → n ≤ 0 → bits_of k n ≡ []
unfolding bits_of
bits_none k n h = bits_trim 0 k n zero-le (omega arith)

-- there are none where no bit below the bound is set
pub bits_absent : (k n : ℕ) → ((b : ℕ) → b < k → has n b ≡ false) → bits_of k n ≡ []
bits_absent zero n h = bits_zero n
bits_absent (suc k) n h = bits_no k n (h k (omega arith)) ∙ bits_absent k n (λ b l. h b (omega arith))

-- the bits below i do not see what stands from i up
pub bits_low : (i a m : ℕ) → bits_of i (m + a * 2 ^ i) ≡ bits_of i m
unfolding bits_of
bits_low zero a m = refl
bits_low (suc i) a m =
    let e : a * 2 ^ suc i ≡ (a * 2) * 2 ^ i = rw (pow-suc, mul_comm (2 ^ i) 2, mul_assoc) in
    rw (e, add-mul-div_right m (a * 2) (pow_pos i), add-mul-mod_self_right, bits_low i (a * 2) m)

pub bits_mod : (k n : ℕ) → bits_of k (n % 2 ^ k) ≡ bits_of k n
bits_mod k n = sym (bits_low k (n / 2 ^ k) (n % 2 ^ k)) ∙ ap (bits_of k) (add_comm (n % 2 ^ k) (n / 2 ^ k * 2 ^ k) ∙ Pow.split n k)

-- ---- the highest bit
pub bits_top : (k j n : ℕ) → j < k → 2 ^ j ≤ n → n < 2 ^ suc j → bits_of k n ≡ j ∷ bits_of k (n - 2 ^ j)
unfolding bits_of
bits_top k j n lt ge h =
    let one : n / 2 ^ j ≡ 1 = div-eq_of_lt-le (2 ^ j) (omega arith) (omega (arith, rw pow-suc at h)) in
    let less : n - 2 ^ j < 2 ^ j = omega (arith, rw pow-suc at h) in
    let same : bits_of j n ≡ bits_of j (n - 2 ^ j) = ap (bits_of j) (omega arith) ∙ bits_low j 1 (n - 2 ^ j) in
    rw (bits_trim (suc j) k n lt h, one, same, bits_trim j k (n - 2 ^ j) (le_of_lt lt) less)

-- the list as a loop finds it: its head is a set bit, none is set between the head and the bound, and the rest are the bits below the head
pub record Head (k n b : ℕ) (l : List ℕ) : Type 0 where
  pub low : b < k
  pub set : has n b ≡ true
  pub rest : l ≡ bits_of b n
  pub gap : (x : ℕ) → b < x → x < k → has n x ≡ false

pub bits_head : (k n b : ℕ) (l : List ℕ) → bits_of k n ≡ b ∷ l → Head k n b l
unfolding bits_of
bits_head zero n b l e = let z : ◌≡◌ {A = ℕ} 0 1 = cc in absurd (omega arith)
bits_head (suc k) n b l e = head_step (has n k) refl e (bits_head k n b l)
  where
    head_step : (t : Bool) → has n k ≡ t → pick t (k ∷ bits_of k n) (bits_of k n) ≡ b ∷ l → (bits_of k n ≡ b ∷ l → Head k n b l) → Head (suc k) n b l
    head_step true s f lower =
        let i : k ≡ b = cc in
        let j : bits_of k n ≡ l = cc in
        rw (← i, ← j) (record { low = omega arith; set = s; rest = refl; gap = λ x g h. absurd (omega arith) })
    head_step false s f lower =
        let p = lower f in
        record {
          low = omega (arith, p.low);
          set = p.set;
          rest = p.rest;
          gap = λ x g h. ⊎_elim (λ (q : k ≤ x). let i : x ≡ k = omega arith in rw i s) (λ (q : x < k). p.gap x g q) (le_or_lt k x);
        }

-- what a program computes of a word n of k + 1 bits that is not 0: the place of its highest set bit, and the power of 2 there as a shift of 1
module _ (k n : ℕ) (p : 0 < n) (h : n < 2 ^ suc k) where
  abbrev place : ℕ
  place = k - count_leading_zeros (suc k) n

  abbrev shifted : ℕ
  shifted = (1 * 2 ^ place) % 2 ^ suc k

  pub leading_small : count_leading_zeros (suc k) n ≤ k
  leading_small = let t = leading_top (suc k) n p h in omega (arith, t.1)

  place_top : place ≡ (leading_top (suc k) n p h).0
  place_top = omega (arith, (leading_top (suc k) n p h).1)

  shift_top : shifted ≡ 2 ^ (leading_top (suc k) n p h).0
  shift_top = let t = leading_top (suc k) n p h in rw (place_top, one-mul, mod-eq_of_lt (lt_of_le_of_lt t.2 h))

  pub shift_le : shifted ≤ n
  shift_le = rw shift_top (leading_top (suc k) n p h).2

  -- `leading_zeros` names the first, and clearing it leaves the rest
  pub bits_cleared : (bits_of (suc k) n ≡ place ∷ bits_of (suc k) (n - shifted)) × (place < suc k) × (n - shifted < n)
  bits_cleared =
      let t = leading_top (suc k) n p h in (
        rw (shift_top, place_top) (bits_top (suc k) t.0 n (omega (arith, t.1)) t.2 t.3),
        omega arith,
        rw shift_top (omega (arith, t.2, pow_pos t.0)),
      )

-- ---- how many bits are set
digit : (d k : ℕ) (l : List ℕ) → d < 2 → length (pick (eqb d 1) (k ∷ l) l) ≡ ones d + length l
unfolding ones
digit zero k l h = omega arith
digit (suc zero) k l h = omega arith
digit (suc (suc d)) k l h = absurd (omega arith)

pub bits_counted : (k n : ℕ) → length (bits_of k n) ≡ ones (n % 2 ^ k)
unfolding bits_of ones
bits_counted zero n = rw (mod-one n)
bits_counted (suc k) n =
    let e : n % 2 ^ suc k ≡ (n / 2 ^ k % 2) * 2 ^ k + n % 2 ^ k = rw (← one-add k) (mod-pow-add n 1 k) in
    rw (e, ones_cat k (n / 2 ^ k % 2) (n % 2 ^ k) (mod-lt n (pow_pos k)), ← (bits_counted k n))
    (digit (n / 2 ^ k % 2) k (bits_of k n) (mod-lt (n / 2 ^ k) (omega arith)))

few_step : (t : Bool) (k : ℕ) (l : List ℕ) → length l ≤ k → length (pick t (k ∷ l) l) ≤ suc k
few_step true k l h = omega arith
few_step false k l h = omega arith

pub bits_few : (k n : ℕ) → length (bits_of k n) ≤ k
unfolding bits_of
bits_few zero n = zero-le
bits_few (suc k) n = few_step (has n k) k (bits_of k n) (bits_few k n)

-- ---- those above a bit

-- there are none among the bits up to it
pub above_none : (b k n : ℕ) → k ≤ suc b → above b (bits_of k n) ≡ []
unfolding bits_of above
above_none b zero n h = refl
above_none b (suc k) n h = pick_none (has n k) (le-ltb b k (le_of_suc-le-suc h)) (above_none b k n (omega arith))
  where
    pick_none : (t : Bool) → ltb b k ≡ false → above b (bits_of k n) ≡ [] → above b (pick t (k ∷ bits_of k n) (bits_of k n)) ≡ []
    pick_none true e f = rw (e, f)
    pick_none false e f = f

-- a bit that stands above b is kept
pub above_kept : (t : Bool) (b k : ℕ) (l : List ℕ) → b < k → above b (pick t (k ∷ l) l) ≡ pick t (k ∷ above b l) (above b l)
unfolding above
above_kept true b k l h = rw (lt-ltb b k h)
above_kept false b k l h = refl

-- two numbers that agree above b have the same bits there
pub above_agree : (k b n m : ℕ) → ((x : ℕ) → b < x → x < k → has n x ≡ has m x) → above b (bits_of k n) ≡ above b (bits_of k m)
unfolding bits_of above
above_agree zero b n m e = refl
above_agree (suc k) b n m e =
    ⊎_elim (λ (h : k ≤ b). above_none b (suc k) n (omega arith) ∙ sym (above_none b (suc k) m (omega arith)))
    (λ (h : b < k).
    rw (
      above_kept (has n k) b k (bits_of k n) h,
      above_kept (has m k) b k (bits_of k m) h,
      e k h (omega arith),
      above_agree k b n m (λ x g l. e x g (omega arith)),
    ))
    (le_or_lt k b)

-- the list is those above b, and then those up to b
parts_step : (t : Bool) (b k : ℕ) (l tail : List ℕ) → b < k → l ≡ above b l ++ tail → pick t (k ∷ l) l ≡ above b (pick t (k ∷ l) l) ++ tail
parts_step true b k l tail h e = rw (above_kept true b k l h) (ap (λ (m : List ℕ). k ∷ m) e)
parts_step false b k l tail h e = e

pub bits_parts : (k n b : ℕ) → b < k → bits_of k n ≡ above b (bits_of k n) ++ bits_of (suc b) n
unfolding bits_of
bits_parts k n b h =
    le_ind (λ (m : ℕ). bits_of m n ≡ above b (bits_of m n) ++ bits_of (suc b) n) (rw (above_none b (suc b) n (omega arith)))
    (λ m q f. parts_step (has n m) b m (bits_of m n) (bits_of (suc b) n) q f) k h

-- those above b are those above a higher bit x, and then those above b up to x
above_step : (t : Bool) (b x k : ℕ) (l tail : List ℕ) → b < k → x < k → above b l ≡ above x l ++ tail
    → above b (pick t (k ∷ l) l) ≡ above x (pick t (k ∷ l) l) ++ tail
above_step true b x k l tail h g e = rw (above_kept true b k l h, above_kept true x k l g) (ap (λ (m : List ℕ). k ∷ m) e)
above_step false b x k l tail h g e = e

pub above_parts : (k n b x : ℕ) → b ≤ x → x < k → above b (bits_of k n) ≡ above x (bits_of k n) ++ above b (bits_of (suc x) n)
unfolding bits_of
above_parts k n b x h g =
    le_ind (λ (m : ℕ). above b (bits_of m n) ≡ above x (bits_of m n) ++ above b (bits_of (suc x) n)) (rw (above_none x (suc x) n (omega arith)))
    (λ m q f. above_step (has n m) b x m (bits_of m n) (above b (bits_of (suc x) n)) (omega arith) q f) k g

-- the bit next above b alone, where it is set
pub above_next : (b n : ℕ) → above b (bits_of (suc (suc b)) n) ≡ pick (has n (suc b)) (suc b ∷ []) []
unfolding bits_of
above_next b n =
    let none : above b (bits_of (suc b) n) ≡ [] = above_none b (suc b) n (omega arith) in
    above_kept (has n (suc b)) b (suc b) (bits_of (suc b) n) (omega arith) ∙ ap (λ (l : List ℕ). pick (has n (suc b)) (suc b ∷ l) l) none

-- a set bit stands between those above it and those below it
pub bits_split : (k n b : ℕ) → b < k → has n b ≡ true → bits_of k n ≡ above b (bits_of k n) ++ (b ∷ bits_of b n)
bits_split k n b h e = bits_parts k n b h ∙ ap (λ (l : List ℕ). above b (bits_of k n) ++ l) (bits_yes b n e)

-- a number whose bits up to b are cleared has those above b
-- (from k > b up it is the number itself, and a multiple of 2 ^ b has no set bit below b)
shr_cleared : (k b n : ℕ) → b < k → n / 2 ^ suc b * 2 ^ suc b / 2 ^ k ≡ n / 2 ^ k
shr_cleared k b n h =
    let e : suc b + (k - suc b) ≡ k = omega arith in
    let down : (m : ℕ) → m / 2 ^ suc b / 2 ^ (k - suc b) ≡ m / 2 ^ k = λ m. shr-shr m (suc b) (k - suc b) ∙ ap (λ (j : ℕ). m / 2 ^ j) e in
    sym (down (n / 2 ^ suc b * 2 ^ suc b)) ∙ ap (λ (m : ℕ). m / 2 ^ (k - suc b)) (shl-shr (n / 2 ^ suc b) (suc b)) ∙ down n

bits_multiple : (k b a : ℕ) → k ≤ b → bits_of k (a * 2 ^ b) ≡ []
bits_multiple k b a h =
    let e : (b - k) + k ≡ b = omega arith in
    let same : a * 2 ^ b ≡ 0 + a * 2 ^ (b - k) * 2 ^ k = rw (zero-add, mul_assoc, ← (pow-add 2 (b - k) k), e) in
    ap (bits_of k) same ∙ bits_low k (a * 2 ^ (b - k)) 0 ∙ bits_none k 0 zero-le

pub bits_above : (k b n : ℕ) → bits_of k (n / 2 ^ suc b * 2 ^ suc b) ≡ above b (bits_of k n)
unfolding bits_of above
bits_above zero b n = refl
bits_above (suc k) b n =
    ⊎_elim (λ (h : k ≤ b). bits_multiple (suc k) (suc b) (n / 2 ^ suc b) (omega arith) ∙ sym (above_none b (suc k) n (omega arith)))
    (λ (h : b < k). rw (shr_cleared k b n h, above_kept (has n k) b k (bits_of k n) h, bits_above k b n))
    (le_or_lt k b)
