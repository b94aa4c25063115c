-- The class of 49A by its two words, and its data types. The idea: each table is held to the code's way of asking it by one test that computes over all
-- data types (`all_at`); the words' tests are arithmetic.
use Rattle.words.proofs.Kit.{◌≡◌, refl, sym, Bool, true, [], ◌∷◌, ⊎_elim, ℕ, ◌+◌, ◌*◌, ◌/◌, ◌%◌, ◌^◌, ◌≤◌, ◌<◌, arith, eq-eqb, eqb-true, le-leb}
use Rattle.words.proofs.Kit.{ne_eqb, lt-ltb, le-ltb, eqb, ltb, leb}
use borrow.Author.Tests.{leb-true, ltb-true}
use Rattle.words.specs.Tests.{pick, both, among}
use Rattle.words.specs.All.{all}
use Rattle.words.proofs.AllLaws.{all_at}
use Rattle.words.proofs.Cases.{same_or_not, true_is_false, same_test, both_left, both_right, both_true}
use Rattle.packet_survey.specs.Class.{survey_oui, high_known, real_complex_in, data_type, low_known, class_known, item_bits, code_of}

-- ---- the first word

pub high_known_lem : (high : ℕ) → eqb (high % 2 ^ 27) survey_oui ≡ high_known high
unfolding high_known
high_known_lem high =
    let reserved = eqb (high / 2 ^ 24 % 8) 0 in
    let oui = eqb (high % 2 ^ 24) survey_oui in
    same_test (eqb (high % 2 ^ 27) survey_oui) (both reserved oui)
    (λ e.
    let v = eqb-true (high % 2 ^ 27) survey_oui e in
    both_true reserved oui (eq-eqb (high / 2 ^ 24 % 8) 0 (omega arith)) (eq-eqb (high % 2 ^ 24) survey_oui (omega arith)))
    (λ e.
    let z = eqb-true (high / 2 ^ 24 % 8) 0 (both_left reserved oui e) in
    let o = eqb-true (high % 2 ^ 24) survey_oui (both_right reserved oui e) in
    eq-eqb (high % 2 ^ 27) survey_oui (omega arith))

-- ---- the second word

one_of : (n : ℕ) → n ≤ 1 → among n (0 ∷ 1 ∷ []) ≡ true
one_of n h = ⊎_elim (λ (z : n ≡ 0). rw z) (λ (d : n ≡ 0 → ⊥). let o : n ≡ 1 = omega arith in rw o) (same_or_not n 0)

of_one : (n : ℕ) → among n (0 ∷ 1 ∷ []) ≡ true → n ≤ 1
of_one n e =
    ⊎_elim (λ (z : n ≡ 0). omega arith)
    (λ (d : n ≡ 0 → ⊥).
    ⊎_elim (λ (o : n ≡ 1). omega arith) (λ (o : n ≡ 1 → ⊥). absurd (true_is_false (sym (rw (ne_eqb n 0 d, ne_eqb n 1 o) at e)))) (same_or_not n 1))
    (same_or_not n 0)

-- the parts that `low_known` asks of a word
module _ (low : ℕ) (known : low_known low ≡ true) where
  pub fixed_zero : low / 2 ^ 24 % 256 ≡ 0
  unfolding low_known
  fixed_zero = eqb-true _ _ (both_left (eqb (low / 2 ^ 24 % 256) 0) _ known)

  low_rest : both (eqb (low / 2 ^ 22 % 4) 0) (both (among (real_complex_in low) (0 ∷ 1 ∷ [])) (both (leb 1 (data_type low)) (leb (data_type low) 13))) ≡ true
  unfolding low_known
  low_rest = both_right (eqb (low / 2 ^ 24 % 256) 0) _ known

  pub reserved_zero : low / 2 ^ 22 % 4 ≡ 0
  reserved_zero = eqb-true _ _ (both_left (eqb (low / 2 ^ 22 % 4) 0) _ low_rest)

  low_last : both (among (real_complex_in low) (0 ∷ 1 ∷ [])) (both (leb 1 (data_type low)) (leb (data_type low) 13)) ≡ true
  low_last = both_right (eqb (low / 2 ^ 22 % 4) 0) _ low_rest

  -- real or complex, and a data type of 1 to 13
  pub complex_most : real_complex_in low ≤ 1
  complex_most = of_one (real_complex_in low) (both_left (among (real_complex_in low) (0 ∷ 1 ∷ [])) _ low_last)

  type_asked : both (leb 1 (data_type low)) (leb (data_type low) 13) ≡ true
  type_asked = both_right (among (real_complex_in low) (0 ∷ 1 ∷ [])) _ low_last

  pub type_least : 1 ≤ data_type low
  type_least = leb-true 1 (data_type low) (both_left (leb 1 (data_type low)) _ type_asked)

  pub type_most : data_type low ≤ 13
  type_most = leb-true (data_type low) 13 (both_right (leb 1 (data_type low)) _ type_asked)

pub low_fits : (low : ℕ) → low < 2 ^ 21 → both (leb 1 (data_type low)) (leb (data_type low) 13) ≡ true → low_known low ≡ true
unfolding low_known
low_fits low h e =
    both_true (eqb (low / 2 ^ 24 % 256) 0) _ (eq-eqb (low / 2 ^ 24 % 256) 0 (omega arith))
    (both_true (eqb (low / 2 ^ 22 % 4) 0) _ (eq-eqb (low / 2 ^ 22 % 4) 0 (omega arith))
    (both_true (among (real_complex_in low) (0 ∷ 1 ∷ [])) _ (one_of (real_complex_in low) (omega arith)) e))

pub low_known_lem : (low : ℕ) → low < 2 ^ 32 → both (ltb low (2 ^ 21)) (both (leb 1 (data_type low)) (leb (data_type low) 13)) ≡ low_known low
low_known_lem low fits =
    let types = both (leb 1 (data_type low)) (leb (data_type low) 13) in
    same_test (both (ltb low (2 ^ 21)) types) (low_known low)
    (λ e. low_fits low (ltb-true low (2 ^ 21) (both_left (ltb low (2 ^ 21)) types e)) (both_right (ltb low (2 ^ 21)) types e))
    (λ e.
    both_true (ltb low (2 ^ 21)) types (lt-ltb low (2 ^ 21) (omega (arith, fixed_zero low e, reserved_zero low e, complex_most low e)))
    (both_true (leb 1 (data_type low)) (leb (data_type low) 13) (le-leb _ _ (type_least low e)) (le-leb _ _ (type_most low e))))

-- the class fits where both words do
pub class_low_lem : (high low : ℕ) → class_known high low ≡ true → low_known low ≡ true
unfolding class_known
class_low_lem high low e = both_right (high_known high) (low_known low) e

-- ---- the data types

-- the bits of an item are the power of two that the code's constant gives, 1 to 64
bits_right : ℕ → Bool
bits_right k = pick (leb 1 k) (eqb (1 * 2 ^ (28502779066925856 / 2 ^ (4 * k) % 16) % 2 ^ 32) (item_bits k)) true

bits_fit : ℕ → Bool
bits_fit k = pick (leb 1 k) (both (leb 1 (item_bits k)) (leb (item_bits k) 64)) true

module _ (k : ℕ) (h : 1 ≤ k) (g : k ≤ 13) where
  pub bits_doubled : 1 * 2 ^ (28502779066925856 / 2 ^ (4 * k) % 16) % 2 ^ 32 ≡ item_bits k
  unfolding bits_right all item_bits
  bits_doubled = eqb-true _ _ (rw (le-leb 1 k h) at (all_at bits_right 14 k (omega arith) refl))

  bits_tested : both (leb 1 (item_bits k)) (leb (item_bits k) 64) ≡ true
  unfolding bits_fit all item_bits
  bits_tested = rw (le-leb 1 k h) at (all_at bits_fit 14 k (omega arith) refl)

  pub bits_least : 1 ≤ item_bits k
  bits_least = leb-true _ _ (both_left (leb 1 (item_bits k)) _ bits_tested)

  pub bits_most : item_bits k ≤ 64
  bits_most = leb-true _ _ (both_right (leb 1 (item_bits k)) _ bits_tested)

-- the codes go by three ranges of types
code_right : ℕ → Bool
code_right k = eqb (pick (ltb k 6) 0 (pick (ltb k 8) (k + 8) 16)) (code_of k)

module _ (k : ℕ) (g : k ≤ 13) where
  code_by_range : pick (ltb k 6) 0 (pick (ltb k 8) (k + 8) 16) ≡ code_of k
  unfolding code_right all code_of
  code_by_range = eqb-true _ _ (all_at code_right 14 k (omega arith) refl)

  pub signed_code : k < 6 → 0 ≡ code_of k
  signed_code h = rw (lt-ltb k 6 h) at code_by_range

  pub float_code : 6 ≤ k → k < 8 → k + 8 ≡ code_of k
  float_code h l = rw (le-ltb k 6 h, lt-ltb k 8 l) at code_by_range

  pub unsigned_code : 8 ≤ k → 16 ≡ code_of k
  unsigned_code h = rw (le-ltb k 6 (omega arith), le-ltb k 8 h) at code_by_range
