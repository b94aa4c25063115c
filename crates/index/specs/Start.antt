-- Document 02, C-16: "a saved page at packet boundary 0"; "starting TABLE, ROOM".
use Rattle.std.specs.Prelude.{ℕ, ◌+◌, not, List, [], ◌∷◌, ltb, length}
use Rattle.words.specs.Numbers.{TABLE, ROOM}
use Rattle.words.specs.Outcome.{Outcome, accepted, Done}
use Rattle.words.specs.Refusals.{Refusals, first_given}
use Rattle.table.specs.Well.{well_made}
use Rattle.page.specs.Layout.{page_length}
use Rattle.index.specs.Layout.{index_contents, with_reached, with_entry}

-- the words of an index with one page
abbrev pub start_words : List ℕ → ℕ
start_words t = index_contents + page_length t

-- no packet was taken in, and the table stands at boundary 0
unfoldable pub started_index : List ℕ → List ℕ → List ℕ
started_index t ix = with_reached 0 0 (with_entry 0 0 index_contents t ix)

abbrev pub start_index_list : List ℕ → List ℕ → Refusals
start_index_list t ix = (TABLE, not (well_made t)) ∷ (ROOM, ltb (length ix) (start_words t)) ∷ []

-- what starting an index answers, the words that it takes, and what it leaves in the buffer
unfoldable pub start_index_of : List ℕ → List ℕ → Outcome (Done ℕ (List ℕ))
start_index_of t ix = first_given (start_index_list t ix) (accepted (record { says = start_words t; leaves = started_index t ix }))
