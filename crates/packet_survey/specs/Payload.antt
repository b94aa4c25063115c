-- What the payload of a 49A packet holds, of l words, by the class's words high and low. Document 02, C-13: "bits 31-27 of the class's first word are a pad
-- count, so n follows from the payload".
use Rattle.std.specs.Prelude.{ℕ, ◌+◌, ◌-◌, ◌*◌, ◌/◌, ◌%◌, Bool, not, [], ◌∷◌, eqb, leb}
use Rattle.words.specs.Tests.{both, either}
use Rattle.words.specs.Word.{bits, join}
use Rattle.packet_survey.specs.Class.{pad_of, real_complex_in, data_type, vector_in, class_known, item_bits, code_of}

-- the bits of a sample vector: a real sample is one item, a complex one two
unfoldable pub vector_bits : ℕ → ℕ
vector_bits low = item_bits (data_type low) * (real_complex_in low + 1) * vector_in low

-- the bits of "the payload less its padding"
unfoldable pub payload_bits : ℕ → ℕ → ℕ
payload_bits high l = 32 * l - pad_of high

-- "the payload less its padding is" neither "negative" nor "not a whole number of sample vectors"
unfoldable pub payload_whole : ℕ → ℕ → ℕ → Bool
payload_whole high low l = both (leb (pad_of high) (32 * l)) (eqb (payload_bits high l % vector_bits low) 0)

-- "20 PAD .. when class or trailer is absent, the class does not fit the table, or the payload less its padding is negative or not a whole number of sample
-- vectors"
unfoldable pub pad_bad : Bool → Bool → ℕ → ℕ → ℕ → Bool
pad_bad classed trailed high low l =
    either (not classed)
    (either (not trailed)
    (either (not (class_known high low))
    (not (payload_whole high low l))))

-- n, the items of the payload
unfoldable pub items_in : ℕ → ℕ → ℕ → ℕ
items_in high low l = payload_bits high l / item_bits (data_type low)

-- ---- the payload's format, in the two words of document 01, 'Payload'

-- "real/complex 30-29, item code 28-24, .. packing field minus one 11-6, item minus one 5-0": processing-efficient, no tags, no unused bits (004, rules
-- 6.1.6-3, -4, -7 and -8)
unfoldable pub format_first : ℕ → ℕ
format_first low =
    let most = item_bits (data_type low) - 1 in
    join (6 ∷ 6 ∷ 12 ∷ 5 ∷ 2 ∷ []) (most ∷ most ∷ 0 ∷ code_of (data_type low) ∷ real_complex_in low ∷ [])

-- "repeat minus one 31-16, vector minus one 15-0": nothing is repeated (rules 6.1.6-9 and -10)
unfoldable pub format_second : ℕ → ℕ
format_second low = bits 15 0 low
