-- Document 01, "Words for each bit": the rows of fixed size as groups of bits, each group a number that has the bits of its row. That they are the rows says
-- the law `size_grouped` of `proofs/SizeLaws.antt`, by one test that computes.
use Rattle.std.specs.Prelude.{ℕ}

-- "30, 24, 23, 22, 19, 18, 16, 10": 1 word
abbrev pub one_word : ℕ
one_word = 0x41CD0400

-- "29 to 25, 21, 20, 17, 15": 2
abbrev pub two_words : ℕ
two_words = 0x3E328000

-- "14, 13": 11
abbrev pub eleven_words : ℕ
eleven_words = 0x6000

-- "12, 11": 13
abbrev pub thirteen_words : ℕ
thirteen_words = 0x1800

-- as a program counts them: the bits from 15 up, which are all in the first two groups; the five below; and 10, which alone of these is in the first
abbrev pub from_fifteen : ℕ
from_fifteen = 0x7FFF8000

abbrev pub last_five : ℕ
last_five = 0x7C00

abbrev pub ten_alone : ℕ
ten_alone = 0x400
