-- The record of a stream as a table of its own: TABLE, STREAM, ROOM. Document 01: "A refusal returns its number alone and writes nothing"; "Only words
-- needed by an accepted answer change."
use Rattle.std.specs.Prelude.{ℕ, List, [], ◌∷◌, ◌++◌, ltb, length, drop}
use Rattle.words.specs.Numbers.{ROOM}
use Rattle.words.specs.Outcome.{Outcome, accepted, Done}
use Rattle.words.specs.Refusals.{Refusals, first_given}
use Rattle.table.specs.Layout.{layout_words, record_at}
use Rattle.table.specs.Stream.{stream_number_list}

-- the layout of one stream: S, which is 1, and its record
unfoldable pub own_layout : List ℕ → List ℕ
own_layout r = 1 ∷ r

-- it stands at the front of the buffer, whose other words stay
abbrev pub own_done : List ℕ → List ℕ → Done ℕ (List ℕ)
own_done r out = record { says = layout_words 1; leaves = own_layout r ++ drop (layout_words 1) out }

-- "a buffer to be written is too short"
abbrev pub own_list : List ℕ → Refusals
own_list out = (ROOM, ltb (length out) (layout_words 1)) ∷ []

abbrev pub own_table_list : List ℕ → ℕ → List ℕ → Refusals
own_table_list t stream out = stream_number_list t stream ++ own_list out

-- what `own_table` answers, the words of that layout, and what it leaves in the buffer
unfoldable pub own_table_of : List ℕ → ℕ → List ℕ → Outcome (Done ℕ (List ℕ))
own_table_of t stream out = first_given (own_table_list t stream out) (accepted (own_done (record_at stream t) out))
