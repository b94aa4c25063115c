-- Document 01: "Save: TABLE, SIZE, ROOM."
use Rattle.std.specs.Prelude.{ℕ, not, List, [], ◌∷◌, ◌++◌, ltb, length, drop}
use Rattle.words.specs.Numbers.{TABLE, SIZE, ROOM}
use Rattle.words.specs.Outcome.{Outcome, accepted, Done}
use Rattle.words.specs.Refusals.{Refusals, first_given}
use Rattle.table.specs.Well.{well_made}
use Rattle.page.specs.Layout.{page_of, page_length}

-- SIZE: "a packet to be written, or a page, exceeds 65,535 words"
abbrev pub size_limit : ℕ
size_limit = 65535

abbrev pub length_list : List ℕ → Refusals
length_list t = (TABLE, not (well_made t)) ∷ (SIZE, ltb size_limit (page_length t)) ∷ []

abbrev pub save_list : List ℕ → List ℕ → Refusals
save_list t page = length_list t ++ ((ROOM, ltb (length page) (page_length t)) ∷ [])

-- the length of the page of a table, for a caller who must make room
unfoldable pub length_of : List ℕ → Outcome ℕ
length_of t = first_given (length_list t) (accepted (page_length t))

-- what saving answers, the page's length, and what it leaves in the page's buffer: the page, and then the words past it as they were
unfoldable pub save_of : List ℕ → List ℕ → Outcome (Done ℕ (List ℕ))
save_of t page = first_given (save_list t page) (accepted (record { says = page_length t; leaves = page_of t ++ drop (page_length t) page }))
