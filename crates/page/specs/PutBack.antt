-- Document 01: "Put back: PAGE, ROOM." "Put back takes exactly one page." "A lent table may be longer than its layout: words past it are neither read nor
-- changed."
use Rattle.std.specs.Prelude.{ℕ, not, List, [], ◌∷◌, ◌++◌, ltb, length, drop}
use Rattle.words.specs.Numbers.{PAGE, ROOM}
use Rattle.words.specs.Outcome.{Outcome, accepted, Done}
use Rattle.words.specs.Refusals.{Refusals, first_given}
use Rattle.table.specs.Layout.{layout_words}
use Rattle.page.specs.Layout.{bodies_in, table_of}
use Rattle.page.specs.Good.{page_good}

abbrev pub put_back_list : List ℕ → List ℕ → Refusals
put_back_list p t = (PAGE, not (page_good p)) ∷ (ROOM, ltb (length t) (layout_words (bodies_in p))) ∷ []

-- what putting back answers, the layout's length, and what it leaves in the table: the layout, and then the words past it as they were
unfoldable pub put_back_of : List ℕ → List ℕ → Outcome (Done ℕ (List ℕ))
put_back_of p t = first_given (put_back_list p t)
    (accepted (record { says = layout_words (bodies_in p); leaves = table_of p ++ drop (layout_words (bodies_in p)) t }))
