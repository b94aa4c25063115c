-- Document 02, C-16: "Keep an index beside it: contents for up to 1,024 entries, then a saved page at packet boundary 0 and every 1,024th reached after it,
-- with its word place." Boundary N is the place just before packet N; packets and boundaries are numbered from 0. docs/LAYOUT.md has the words in a picture:
-- word 0 is the number of entries, word 1 that of the packets taken in, words 2 and 3 the word place of the boundary behind them; then four words for each
-- entry, and then the pages. Word places take two words, high first.
use Rattle.std.specs.Prelude.{ℕ, zero, suc, ◌+◌, ◌*◌, ◌/◌, ◌%◌, ◌^◌, List, [], ◌∷◌, get_or}
use Rattle.words.specs.Word.{high_first}
use Rattle.words.specs.Part.{part, put}
use Rattle.page.specs.Layout.{page_of, page_length}

-- "up to 1,024 entries"; "every 1,024th"
abbrev pub most_entries : ℕ
most_entries = 1024

abbrev pub spacing : ℕ
spacing = 1024

-- where entry j begins
abbrev pub entry_from : ℕ → ℕ
entry_from j = 4 + 4 * j

-- the words of the contents, always as many
abbrev pub index_contents : ℕ
index_contents = 4100

-- ---- what stands where

abbrev pub entries_in : List ℕ → ℕ
entries_in ix = get_or ix 0 0

-- "the number of packets taken in, which the index holds"
abbrev pub packets_taken : List ℕ → ℕ
packets_taken ix = get_or ix 1 0

-- the word place of the boundary behind them
abbrev pub place_reached : List ℕ → ℕ
place_reached ix = high_first (get_or ix 2 0) (get_or ix 3 0)

-- of entry j: the word place of its boundary, 1,024 j; and where its page stands in the index, and the page's length
abbrev pub entry_place : List ℕ → ℕ → ℕ
entry_place ix j = high_first (get_or ix (entry_from j) 0) (get_or ix (entry_from j + 1) 0)

abbrev pub entry_offset : List ℕ → ℕ → ℕ
entry_offset ix j = get_or ix (entry_from j + 2) 0

abbrev pub entry_length : List ℕ → ℕ → ℕ
entry_length ix j = get_or ix (entry_from j + 3) 0

-- its page
unfoldable pub page_in : List ℕ → ℕ → List ℕ
page_in ix j = part (entry_offset ix j) (entry_length ix j) ix

-- where page j begins by the lengths before it: "behind the contents in order, without gaps"
unfoldable pub pages_from : List ℕ → ℕ → ℕ
pages_from ix zero = index_contents
pages_from ix (suc j) = pages_from ix j + entry_length ix j

-- where the pages end
abbrev pub pages_end : List ℕ → ℕ
pages_end ix = pages_from ix (entries_in ix)

-- ---- what is written

-- a word place as two words
abbrev pub place_words : ℕ → List ℕ → List ℕ
place_words place rest = (place / 2 ^ 32) ∷ (place % 2 ^ 32) ∷ rest

-- the boundaries with an entry that n packets reach: 0, 1,024, ..
abbrev pub boundaries_by : ℕ → ℕ
boundaries_by n = n / spacing + 1

-- the index when n packets were taken in, and the place behind them
unfoldable pub with_reached : ℕ → ℕ → List ℕ → List ℕ
with_reached n place ix = put 0 4 (boundaries_by n ∷ n ∷ place_words place []) ix

-- the index with entry j, of the table t at its boundary: the page stands at an offset
unfoldable pub with_entry : ℕ → ℕ → ℕ → List ℕ → List ℕ → List ℕ
with_entry j place offset t ix =
    put (entry_from j) 4 (place_words place (offset ∷ page_length t ∷ [])) (put offset (page_length t) (page_of t) ix)
