-- Document 01, 'The packet': "Header: type 31-28, C 27, then for types 0-3 T (trailer) 26 and 25-24 reserved; for types 4-5, 26-25 reserved
-- and TSM 24. TSI 23-22, TSF 21-20, count 19-16, size 15-0 in words with the header." Each is a part of the header word w.
use Rattle.std.specs.Prelude.{ℕ, Bool, false, ltb}
use Rattle.words.specs.Tests.{pick}
use Rattle.words.specs.Word.{bits, has}

abbrev pub type_of : ℕ → ℕ
type_of w = bits 31 28 w

-- C: a class is there
abbrev pub classed : ℕ → Bool
classed w = has w 27

-- T: a trailer is there
unfoldable pub trailed : ℕ → Bool
trailed w = pick (ltb (type_of w) 4) (has w 26) false

unfoldable pub tsm_of : ℕ → Bool
tsm_of w = pick (ltb (type_of w) 4) false (has w 24)

-- the reserved bits
unfoldable pub reserved_of : ℕ → ℕ
reserved_of w = pick (ltb (type_of w) 4) (bits 25 24 w) (bits 26 25 w)

abbrev pub tsi_of : ℕ → ℕ
tsi_of w = bits 23 22 w

abbrev pub tsf_of : ℕ → ℕ
tsf_of w = bits 21 20 w

abbrev pub count_of : ℕ → ℕ
count_of w = bits 19 16 w

abbrev pub size_of : ℕ → ℕ
size_of w = bits 15 0 w
