-- A table's page, saved into an index at an offset: TABLE, and ROOM where it does not fit.
use Rattle.std.specs.Prelude.{ℕ, ◌+◌, not, List, [], ◌∷◌, ltb, length}
use Rattle.words.specs.Numbers.{TABLE, ROOM}
use Rattle.words.specs.Part.{put}
use Rattle.words.specs.Outcome.{Outcome, accepted, Done}
use Rattle.words.specs.Refusals.{Refusals, first_given}
use Rattle.table.specs.Well.{well_made}
use Rattle.page.specs.Layout.{page_of, page_length}
use Rattle.index.specs.Layout.{with_entry}

abbrev pub enter_list : List ℕ → ℕ → List ℕ → Refusals
enter_list t offset ix = (TABLE, not (well_made t)) ∷ (ROOM, ltb (length ix) (offset + page_length t)) ∷ []

-- the page alone, and then with entry j; the page's length is said
unfoldable pub saved_at : List ℕ → ℕ → List ℕ → Outcome (Done ℕ (List ℕ))
saved_at t offset ix =
    first_given (enter_list t offset ix) (accepted (record { says = page_length t; leaves = put offset (page_length t) (page_of t) ix }))

unfoldable pub entered_at : List ℕ → ℕ → ℕ → ℕ → List ℕ → Outcome (Done ℕ (List ℕ))
entered_at t j place offset ix = first_given (enter_list t offset ix) (accepted (record { says = page_length t; leaves = with_entry j place offset t ix }))
