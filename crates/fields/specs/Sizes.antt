-- Document 01, 'The packet': "Words for each bit".
use Rattle.std.specs.Prelude.{ℕ, ◌+◌, ◌*◌, List, [], ◌∷◌, eqb, get_or}
use Rattle.words.specs.Tests.{pick, among}
use Rattle.words.specs.Word.{bits}

-- the rows of fixed size; 0 for a bit in none of them
unfoldable pub field_size : ℕ → ℕ
field_size b =
    pick (among b (30 ∷ 24 ∷ 23 ∷ 22 ∷ 19 ∷ 18 ∷ 16 ∷ 10 ∷ [])) 1
    (pick (among b (29 ∷ 28 ∷ 27 ∷ 26 ∷ 25 ∷ 21 ∷ 20 ∷ 17 ∷ 15 ∷ [])) 2
    (pick (among b (14 ∷ 13 ∷ [])) 11
    (pick (among b (12 ∷ 11 ∷ [])) 13
    0)))

-- the words of fields of fixed size together
unfoldable pub sizes_of : List ℕ → ℕ
sizes_of [] = 0
sizes_of (b ∷ bs) = field_size b + sizes_of bs

-- "9 (GPS ASCII): 2 + N, N the second word"
unfoldable pub ascii_words : List ℕ → ℕ
ascii_words ws = 2 + get_or ws 1 0

-- "8 (lists): 2 + source (first word 24-16) + system (8-0) + vector (second word 31-16) + asynchronous (14-0), the last twice if bit 15"
unfoldable pub list_words : List ℕ → ℕ
list_words ws =
    2 + bits 24 16 (get_or ws 0 0) + bits 8 0 (get_or ws 0 0) + bits 31 16 (get_or ws 1 0)
    + bits 14 0 (get_or ws 1 0) * (1 + bits 15 15 (get_or ws 1 0))

-- the words of the field of bit b, whose own words are the first of ws
unfoldable pub words_of : ℕ → List ℕ → ℕ
words_of b ws = pick (eqb b 9) (ascii_words ws) (pick (eqb b 8) (list_words ws) (field_size b))
