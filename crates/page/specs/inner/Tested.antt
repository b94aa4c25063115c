-- The tests that a program makes of a page: its contents, its list, and each body's record. That they pass exactly the well-made pages is `page_tested`
-- (proofs/Exact.antt); no promise of a public call speaks of them.
use Rattle.std.specs.Prelude.{◌≡◌, ℕ, ◌+◌, ◌≤◌, ◌<◌, Bool, true, List, eqb, leb, length, get_or}
use Rattle.words.specs.Tests.{pick, both}
use Rattle.words.specs.Word.{has}
use Rattle.words.specs.SetBits.{bits_of, above}
use Rattle.words.specs.All.{all}
use Rattle.fields.specs.Sizes.{sizes_of}
use Rattle.record.specs.Layout.{head_words, held_of}
use Rattle.record.specs.State.{state_good}
use Rattle.record.specs.Good.{record_good}
use Rattle.table.specs.Identifiers.{listed, list_good}
use Rattle.page.specs.Body.{page_body_words}
use Rattle.page.specs.Layout.{contents_words, bodies_in, offset_at, length_at, begins_at, saved_record}

-- "offset from word 0 and length of each body, in list order without gaps": body s begins where the one before it ends, it ends inside the page, and its
-- length is that of its held indicator
unfoldable pub pair_good : List ℕ → ℕ → Bool
pair_good p s =
    both (eqb (offset_at p s) (begins_at p s))
    (both (leb (begins_at p s + length_at p s) (length p))
    (eqb (length_at p s) (page_body_words (get_or p (begins_at p s + 1) 0))))

-- n pairs, and nothing after the last body
abbrev pub pairs_good : List ℕ → ℕ → Bool
pairs_good p n = both (all n (pair_good p)) (eqb (begins_at p n) (length p))

-- "word 1 the page's length; then S pairs .. without gaps; then bodies". The contents of 32 bodies are the longest
unfoldable pub contents_good : List ℕ → Bool
contents_good p =
    both (leb (bodies_in p) 32)
    (both (leb (contents_words (bodies_in p)) (length p))
    (both (eqb (get_or p 1 0) (length p))
    (pairs_good p (bodies_in p))))

-- the identifier of body s
abbrev pub identifier_at : List ℕ → ℕ → ℕ
identifier_at p s = get_or p (offset_at p s) 0

-- a list of the identifiers of n bodies
abbrev pub Gathered : ℕ → List ℕ → List ℕ → Type 0
Gathered n p ids = (s : ℕ) → s < n → listed ids s ≡ identifier_at p s

-- where a body has a state word, which stands behind the words of the fields above 16, it can be held
unfoldable pub state_good_in : List ℕ → Bool
state_good_in b = pick (has (held_of b) 16) (state_good (get_or b (head_words + sizes_of (above 16 (bits_of 31 (held_of b)))) 0)) true

-- held fields, counts and rules: the record that body s gives is good
unfoldable pub record_good_in : List ℕ → ℕ → Bool
record_good_in p s = record_good (saved_record p s)

unfoldable pub page_ok : List ℕ → Bool
page_ok p =
    both (contents_good p)
    (both (list_good (bodies_in p) (identifier_at p))
    (all (bodies_in p) (record_good_in p)))

-- ---- right contents, in facts

pub record GoodContents (p : List ℕ) : Type 0 where
  pub few : bodies_in p ≤ 32
  pub room : contents_words (bodies_in p) ≤ length p
  pub second : get_or p 1 0 ≡ length p
  pub gapless : (s : ℕ) → s < bodies_in p → offset_at p s ≡ begins_at p s
  pub inside : (s : ℕ) → s < bodies_in p → begins_at p s + length_at p s ≤ length p
  pub lengths : (s : ℕ) → s < bodies_in p → length_at p s ≡ page_body_words (get_or p (begins_at p s + 1) 0)
  pub ends : begins_at p (bodies_in p) ≡ length p
