-- Where the parts of a packet lie. The idea: each part ends where the next begins, and the last ends at the size; so all lie inside n words as
-- soon as the required parts fit the size and the size fits n.
use Rattle.words.proofs.Kit.{◌≡◌, refl, sym, Bool, true, false, not, List, [], ◌∷◌, ℕ, ◌+◌, ◌-◌, ◌/◌, ◌%◌, ◌^◌, ◌≤◌, ◌<◌, arith, ne_eqb, eqb, ltb}
use Rattle.words.proofs.Kit.{length, get_or}
use Rattle.words.specs.Tests.{pick, when, among}
use Rattle.words.specs.Word.{has, high_first}
use Rattle.words.specs.All.{all}
use Rattle.words.proofs.AllLaws.{all_at}
use Rattle.words.proofs.Cases.{when_most, true_is_false, agreed}
use Rattle.packet.specs.Header.{type_of, classed, trailed, tsm_of, reserved_of, tsf_of, size_of}
use Rattle.packet.specs.Parts.{streamed, has_seconds, has_fraction, class_at, seconds_at, fraction_at, body_at, required_of, body_length, word_if, fraction_of}

-- the body begins past the header
pub body_past : (w : ℕ) → 1 ≤ body_at w
unfolding body_at fraction_at seconds_at class_at
body_past w = omega arith

-- each part, where it is there, lies inside n words
pub record Room (w n : ℕ) : Type 0 where
  pub header : 1 ≤ size_of w
  pub identifier : 1 + when (streamed w) 1 ≤ n
  pub class : class_at w + when (classed w) 2 ≤ n
  pub seconds : seconds_at w + when (has_seconds w) 1 ≤ n
  pub fraction : fraction_at w + when (has_fraction w) 2 ≤ n
  pub body : body_at w + body_length w ≤ n
  pub trailer : size_of w - 1 + when (trailed w) 1 ≤ n
  pub around : body_at w + when (trailed w) 1 ≤ size_of w

pub room : (w n : ℕ) → required_of w ≤ size_of w → size_of w ≤ n → Room w n
unfolding required_of body_length body_at fraction_at seconds_at class_at
room w n h g = record {
  header = omega arith;
  identifier = omega arith;
  class = omega arith;
  seconds = omega arith;
  fraction = omega arith;
  body = omega arith;
  trailer = omega (arith, when_most (trailed w) 1);
  around = omega arith;
}

-- the body ends inside
pub body_ends : (w : ℕ) (ws : List ℕ) → required_of w ≤ size_of w → size_of w ≤ length ws → (end : ℕ) → end ≡ body_at w + body_length w → end ≤ length ws
body_ends w ws h g end e = omega (arith, (room w (length ws) h g).body)

-- a body has fewer than 2^16 words
pub length_small : (w : ℕ) → body_length w < 2 ^ 16
unfolding body_length
length_small w = omega arith

-- a part of k words that is there lies inside, whole
pub when_inside : (t : Bool) (at k n : ℕ) → at + when t k ≤ n → t ≡ true → at + k ≤ n
when_inside true at k n h e = h
when_inside false at k n h e = absurd (true_is_false (sym e))

-- where TSF is 2, a fraction is there: it lies inside, and is its two words
module _ (w tsf at : ℕ) (t : tsf ≡ tsf_of w) (two : tsf ≡ 2) (a : at ≡ fraction_at w) where
  there : has_fraction w ≡ true
  unfolding has_fraction
  there = rw (← t, two)

  inside : (n : ℕ) → required_of w ≤ size_of w → size_of w ≤ n → fraction_at w + 2 ≤ n
  inside n h g = when_inside (has_fraction w) (fraction_at w) 2 n (room w n h g).fraction there

  pub high_inside : (n : ℕ) → required_of w ≤ size_of w → size_of w ≤ n → at < n
  high_inside n h g = omega (arith, inside n h g)

  pub low_inside : (n : ℕ) → required_of w ≤ size_of w → size_of w ≤ n → at + 1 < n
  low_inside n h g = omega (arith, inside n h g)

  pub fraction_words : (ws : List ℕ) → fraction_of w ws ≡ high_first (get_or ws at 0) (get_or ws (at + 1) 0)
  unfolding fraction_of word_if
  fraction_words ws = rw (there, a)

-- ---- the types that have a stream identifier, as the bits of one constant

bit_right : ℕ → Bool
bit_right k = pick (eqb (58 / 2 ^ k % 2) 1) (among k (1 ∷ 3 ∷ 4 ∷ 5 ∷ [])) (not (among k (1 ∷ 3 ∷ 4 ∷ 5 ∷ [])))

pub streamed_bit : (k : ℕ) → k < 16 → eqb (58 / 2 ^ k % 2) 1 ≡ among k (1 ∷ 3 ∷ 4 ∷ 5 ∷ [])
unfolding bit_right all
streamed_bit k h = agreed (eqb (58 / 2 ^ k % 2) 1) (among k (1 ∷ 3 ∷ 4 ∷ 5 ∷ [])) (all_at bit_right 16 k h refl)

-- TSM of a header whose reserved bits are zero, whatever its type
pub tsm_bit : (w : ℕ) → reserved_of w ≡ 0 → has w 24 ≡ tsm_of w
unfolding reserved_of tsm_of
tsm_bit w e = by_type (ltb (type_of w) 4) e
  where
    by_type : (young : Bool) → pick young (w / 2 ^ 24 % 4) (w / 2 ^ 25 % 4) ≡ 0 → has w 24 ≡ pick young false (has w 24)
    by_type true z = ne_eqb (w / 2 ^ 24 % 2) 1 (λ o. omega (arith, z, o))
    by_type false z = refl
