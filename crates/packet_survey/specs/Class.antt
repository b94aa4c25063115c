-- Source document 004, Table 4-4, 'Standard Data Packet Class Identifier', and Table 4-5, its data types. Document 02, C-13: "bits 31-27 of the class's
-- first word are a pad count". The class's two words are high and low.
use Rattle.std.specs.Prelude.{ℕ, ◌+◌, Bool, [], ◌∷◌, eqb, leb, get_or}
use Rattle.words.specs.Tests.{both, among}
use Rattle.words.specs.Word.{bits}

-- ---- the first word

-- 31-27, "Number of Pad bits at the end of the payload"
abbrev pub pad_of : ℕ → ℕ
pad_of high = bits 31 27 high

-- FF-FF-FA
abbrev pub survey_oui : ℕ
survey_oui = 16777210

-- 26-24, "Reserved = set to zero"; 23-0, "OUI: FF-FF-FA"
unfoldable pub high_known : ℕ → Bool
high_known high = both (eqb (bits 26 24 high) 0) (eqb (bits 23 0 high) survey_oui)

-- ---- the second word

-- 21-20, "0x00: Real, 0x01: Complex Cartesian"
abbrev pub real_complex_in : ℕ → ℕ
real_complex_in low = bits 21 20 low

-- 19-16, "See Table 4-5 for Data Type Codes"
abbrev pub data_type : ℕ → ℕ
data_type low = bits 19 16 low

-- 15-0, "one less than actual Vector Size"
abbrev pub vector_in : ℕ → ℕ
vector_in low = bits 15 0 low + 1

-- 31-24, "Fixed Value bits set to zero"; 23-22, "Reserved = set to zero"; real or complex; a data type of 1 to 13
unfoldable pub low_known : ℕ → Bool
low_known low =
    both (eqb (bits 31 24 low) 0)
    (both (eqb (bits 23 22 low) 0)
    (both (among (real_complex_in low) (0 ∷ 1 ∷ []))
    (both (leb 1 (data_type low)) (leb (data_type low) 13))))

-- the class fits the table
unfoldable pub class_known : ℕ → ℕ → Bool
class_known high low = both (high_known high) (low_known low)

-- ---- the data types

-- the bits of an item, by its data type: 1 to 5 are "Signed Fixed Point", 6 "IEEE 754 Single Precision", 7 "Double Precision", 8 to 13 "Unsigned Fixed Point"
unfoldable pub item_bits : ℕ → ℕ
item_bits type = get_or (0 ∷ 4 ∷ 8 ∷ 16 ∷ 32 ∷ 64 ∷ 32 ∷ 64 ∷ 1 ∷ 4 ∷ 8 ∷ 16 ∷ 32 ∷ 64 ∷ []) type 0

-- its code in a payload's format: 0 signed, 14 single, 15 double, 16 unsigned
unfoldable pub code_of : ℕ → ℕ
code_of type = get_or (0 ∷ 0 ∷ 0 ∷ 0 ∷ 0 ∷ 0 ∷ 14 ∷ 15 ∷ 16 ∷ 16 ∷ 16 ∷ 16 ∷ 16 ∷ 16 ∷ []) type 0
