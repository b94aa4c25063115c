-- The payload of a 49A packet. The idea: the payload less its padding is so many sample vectors, each of so many items; so its items follow from its length and
-- its pad count, and no other number of them fills it (`items_fill`, `items_one`).
use Rattle.words.proofs.Kit.{◌≡◌, sym, ap, ◌∙◌, Bool, true, false, not, ℕ, ◌+◌, ◌-◌, ◌*◌, ◌/◌, ◌%◌, ◌^◌, ◌≤◌, ◌<◌, arith, eqb-true, not-false, leb}
use native.Mathlib.Nat.{mul-mod_left, mod-lt, div-add-mod', div-eq_of_eq-mul_left, mul-le-mul}
use borrow.Author.Tests.{leb-true}
use Rattle.words.specs.Tests.{either}
use Rattle.words.proofs.Cases.{both_left, both_right}
use Rattle.words.proofs.RefusalLaws.{either_passed}
use Rattle.packet_survey.specs.Class.{pad_of, real_complex_in, data_type, vector_in, class_known, item_bits}
use Rattle.packet_survey.specs.Payload.{vector_bits, payload_bits, payload_whole, pad_bad, items_in}
use Rattle.packet_survey.proofs.ClassLaws.{class_low_lem, type_least, type_most, bits_least}

-- a pad count has five bits
pub pad_small : (high : ℕ) → pad_of high < 32
pad_small high = mod-lt _ (omega arith)

-- ---- the bits of a sample vector

-- of items of b bits, c to a sample, by the class's second word
module _ (b c : ℕ) where
  pub sample_small : b ≤ 64 → c ≤ 4 → b * c < 2 ^ 32
  sample_small h g = omega (arith, mul-le-mul h g)

  pub vector_small : (low : ℕ) → b ≤ 64 → c ≤ 4 → b * c * (low % 2 ^ 16 + 1) < 2 ^ 32
  vector_small low h g = let f : low % 2 ^ 16 + 1 ≤ 2 ^ 16 = omega arith in omega (arith, mul-le-mul (mul-le-mul h g) f)

  pub vector_some : (low : ℕ) → 1 ≤ b → 1 ≤ c → 1 ≤ b * c * (low % 2 ^ 16 + 1)
  vector_some low h g = let f : 1 ≤ low % 2 ^ 16 + 1 = omega arith in omega (arith, mul-le-mul (mul-le-mul h g) f)

-- ---- what is not PAD

module _ (classed trailed : Bool) (high low l : ℕ) (e : pad_bad classed trailed high low l ≡ false) where
  pub pad_classed : classed ≡ true
  unfolding pad_bad
  pad_classed = not-false classed (either_passed (not classed) _ e).0

  trailer_asked : either (not trailed) (either (not (class_known high low)) (not (payload_whole high low l))) ≡ false
  unfolding pad_bad
  trailer_asked = (either_passed (not classed) _ e).1

  pub pad_trailed : trailed ≡ true
  pad_trailed = not-false trailed (either_passed (not trailed) _ trailer_asked).0

  class_asked : either (not (class_known high low)) (not (payload_whole high low l)) ≡ false
  class_asked = (either_passed (not trailed) _ trailer_asked).1

  pub pad_known : class_known high low ≡ true
  pad_known = not-false _ (either_passed (not (class_known high low)) _ class_asked).0

  pub pad_whole : payload_whole high low l ≡ true
  pad_whole = not-false _ (either_passed (not (class_known high low)) _ class_asked).1

-- ---- a payload of whole sample vectors

module _ (high low l : ℕ) (whole : payload_whole high low l ≡ true) where
  pub pad_inside : pad_of high ≤ 32 * l
  unfolding payload_whole
  pad_inside = leb-true _ _ (both_left (leb (pad_of high) (32 * l)) _ whole)

  pub vectors_whole : payload_bits high l % vector_bits low ≡ 0
  unfolding payload_whole
  vectors_whole = eqb-true _ _ (both_right (leb (pad_of high) (32 * l)) _ whole)

  -- its sample vectors
  vectors_in : ℕ
  vectors_in = payload_bits high l / vector_bits low

  bits_in_vectors : payload_bits high l ≡ vectors_in * vector_bits low
  unfolding vectors_in
  bits_in_vectors = let d = div-add-mod' (payload_bits high l) (vector_bits low) in omega (arith, d, vectors_whole)

  module _ (known : class_known high low ≡ true) where
    some_bits : 1 ≤ item_bits (data_type low)
    some_bits = bits_least (data_type low) (type_least low (class_low_lem high low known)) (type_most low (class_low_lem high low known))

    bits_in_items : payload_bits high l ≡ vectors_in * (vector_in low * (real_complex_in low + 1)) * item_bits (data_type low)
    unfolding vector_bits
    bits_in_items = omega (arith, bits_in_vectors)

    items_in_vectors : items_in high low l ≡ vectors_in * (vector_in low * (real_complex_in low + 1))
    unfolding items_in
    items_in_vectors = div-eq_of_eq-mul_left some_bits bits_in_items

    -- the items are those of whole sample vectors
    pub items_vectors : items_in high low l % (vector_in low * (real_complex_in low + 1)) ≡ 0
    items_vectors = rw items_in_vectors (mul-mod_left vectors_in (vector_in low * (real_complex_in low + 1)))

    -- with the padding they fill the payload
    pub items_fill : items_in high low l * item_bits (data_type low) + pad_of high ≡ 32 * l
    unfolding payload_bits
    items_fill =
        let b = item_bits (data_type low) in
        let p : items_in high low l * b ≡ 32 * l - pad_of high = ap (λ n. n * b) items_in_vectors ∙ sym bits_in_items in
        omega (arith, p, pad_inside)

    -- and no other number of items does
    pub items_one : (m : ℕ) → m * item_bits (data_type low) + pad_of high ≡ 32 * l → m ≡ items_in high low l
    unfolding items_in payload_bits
    items_one m e = sym (div-eq_of_eq-mul_left some_bits (omega (arith, e)))
