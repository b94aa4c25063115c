-- Document 01, 'Numbers given back', LIST: "0 or over 32 identifiers, or one twice". Identifiers are given as a function from their place in the list, so that
-- a list that is handed in and the list of a table are judged alike. Document 02, C-13: "The caller chooses plain 49.0 (word 0) or 49A (1) for each stream in
-- the list".
use Rattle.std.specs.Prelude.{ℕ, ◌+◌, ◌*◌, Bool, not, List, eqb, leb, ltb, length, get_or}
use Rattle.words.specs.Tests.{both}
use Rattle.words.specs.All.{all, first_of}
use Rattle.record.specs.Layout.{choice_of}
use Rattle.record.specs.Good.{choice_good}
use Rattle.table.specs.Layout.{streams_of, base, record_at}

-- the identifiers that stand at equal distances
abbrev pub spaced : ℕ → ℕ → List ℕ → ℕ → ℕ
spaced first step ws s = get_or ws (first + step * s) 0

-- those of a list, and of a table
abbrev pub listed : List ℕ → ℕ → ℕ
listed ids s = get_or ids s 0

abbrev pub declared : List ℕ → ℕ → ℕ
declared t s = get_or t (base s) 0

-- none before s is that of s
unfoldable pub apart : (ℕ → ℕ) → ℕ → Bool
apart id s = all s (λ u. not (eqb (id u) (id s)))

-- 1 to 32, and none twice
unfoldable pub list_good : ℕ → (ℕ → ℕ) → Bool
list_good n id = both (leb 1 n) (both (leb n 32) (all n (apart id)))

-- a choice for each of n identifiers, and no other: "Another word, or choices unlike the identifiers in number, is LIST"
unfoldable pub choices_good : ℕ → List ℕ → Bool
choices_good n choices = both (eqb (length choices) n) (all n (λ s. choice_good (get_or choices s 0)))

-- the stream of an identifier: its place in the table's list, and S where it is not declared
unfoldable pub stream_of : ℕ → List ℕ → ℕ
stream_of identifier t = first_of (streams_of t) (λ s. eqb (declared t s) identifier)

-- 49A is chosen for the stream of an identifier; "packets of no declared stream .. stay plain"
unfoldable pub surveyed : ℕ → List ℕ → Bool
surveyed identifier t =
    let s = stream_of identifier t in
    both (ltb s (streams_of t)) (eqb (choice_of (record_at s t)) 1)
