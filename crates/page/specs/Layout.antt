-- Document 01, 'The table and its page': "Page, contents first: word 0 is S; word 1 the page's length; then S pairs, offset from word 0 and length of each
-- body, in list order without gaps; then bodies."
use Rattle.std.specs.Prelude.{ℕ, zero, suc, ◌+◌, ◌*◌, List, [], ◌∷◌, ◌++◌, length, get_or}
use Rattle.words.specs.Part.{part}
use Rattle.table.specs.Layout.{streams_of, record_at}
use Rattle.words.specs.Pieces.{pieces}
use Rattle.page.specs.Body.{page_body, record_of}

-- ---- the page of n bodies

-- the words before the bodies: S, the length, and the pairs
abbrev pub contents_words : ℕ → ℕ
contents_words n = 2 + 2 * n

-- where the pair of body s stands
abbrev pub pair_at : ℕ → ℕ
pair_at s = 2 + 2 * s

-- where body s begins: "without gaps", after the contents and the bodies before it
unfoldable pub offset_of : ℕ → (ℕ → List ℕ) → ℕ → ℕ
offset_of n body s = contents_words n + length (pieces s body)

-- "offset from word 0 and length of each body"
unfoldable pub pair_of : ℕ → (ℕ → List ℕ) → ℕ → List ℕ
pair_of n body s = offset_of n body s ∷ length (body s) ∷ []

unfoldable pub page_from : ℕ → (ℕ → List ℕ) → List ℕ
page_from n body = n ∷ offset_of n body n ∷ (pieces n (pair_of n body) ++ pieces n body)

-- ---- the page of a table

-- the body of stream s
unfoldable pub saved_body : List ℕ → ℕ → List ℕ
saved_body t s = page_body (record_at s t)

-- the pairs, and the bodies
abbrev pub pairs_of : List ℕ → List ℕ
pairs_of t = pieces (streams_of t) (pair_of (streams_of t) (saved_body t))

abbrev pub bodies_of : List ℕ → List ℕ
bodies_of t = pieces (streams_of t) (saved_body t)

-- the place past the pairs
abbrev pub bodies_from : List ℕ → ℕ
bodies_from t = contents_words (streams_of t)

unfoldable pub page_of : List ℕ → List ℕ
page_of t = page_from (streams_of t) (saved_body t)

-- the page's length
unfoldable pub page_length : List ℕ → ℕ
page_length t = offset_of (streams_of t) (saved_body t) (streams_of t)

-- 2 + 90 S of 32 streams: no page has more words
abbrev pub most_words : ℕ
most_words = 2882

-- ---- what stands where in a page

-- S
abbrev pub bodies_in : List ℕ → ℕ
bodies_in p = get_or p 0 0

-- the offset and the length that the contents give for body s
abbrev pub offset_at : List ℕ → ℕ → ℕ
offset_at p s = get_or p (pair_at s) 0

abbrev pub length_at : List ℕ → ℕ → ℕ
length_at p s = get_or p (pair_at s + 1) 0

-- where body s begins by the lengths before it: "in list order without gaps"
unfoldable pub begins_at : List ℕ → ℕ → ℕ
begins_at p zero = contents_words (bodies_in p)
begins_at p (suc s) = begins_at p s + length_at p s

-- body s
unfoldable pub page_body_at : List ℕ → ℕ → List ℕ
page_body_at p s = part (offset_at p s) (length_at p s) p

-- ---- the table of a page

-- the record of stream s
unfoldable pub saved_record : List ℕ → ℕ → List ℕ
saved_record p s = record_of (page_body_at p s)

-- the layout of n records
unfoldable pub table_from : ℕ → (ℕ → List ℕ) → List ℕ
table_from n rec = n ∷ pieces n rec

unfoldable pub table_of : List ℕ → List ℕ
table_of p = table_from (bodies_in p) (saved_record p)
