-- Document 01: "Start: LIST, ROOM"; a table "starts as zeroed words apart from the list", which is identifiers and choices by document 02,
-- C-13.
use Rattle.std.specs.Prelude.{ℕ, ◌-◌, not, List, [], ◌∷◌, ◌++◌, ltb, length, drop, replicate}
use Rattle.words.specs.Numbers.{LIST, ROOM}
use Rattle.words.specs.Outcome.{Outcome, accepted, Done}
use Rattle.words.specs.Tests.{both}
use Rattle.words.specs.Refusals.{Refusals, first_given}
use Rattle.record.specs.Layout.{head_words, slot_words}
use Rattle.table.specs.Layout.{layout_words}
use Rattle.table.specs.Identifiers.{listed, list_good, choices_good}

-- a stream's record at the start: its identifier, its choice, and zeros
unfoldable pub fresh_record : ℕ → ℕ → List ℕ
fresh_record identifier choice = identifier ∷ (replicate (head_words - 2) 0 ++ choice ∷ replicate slot_words 0)

-- the records of a list
unfoldable pub fresh_records : List ℕ → List ℕ → List ℕ
fresh_records [] choices = []
fresh_records (i ∷ ids) [] = []
fresh_records (i ∷ ids) (c ∷ choices) = fresh_record i c ++ fresh_records ids choices

-- the layout of a list, and then the words past it as they were
unfoldable pub fresh_table : List ℕ → List ℕ → List ℕ → List ℕ
fresh_table ids choices t = length ids ∷ (fresh_records ids choices ++ drop (layout_words (length ids)) t)

-- "0 or over 32 identifiers, or one twice"; choices unlike the identifiers; "a buffer to be written is too short"
abbrev pub start_list : List ℕ → List ℕ → List ℕ → Refusals
start_list ids choices t =
    (LIST, not (both (list_good (length ids) (listed ids)) (choices_good (length ids) choices)))
    ∷ (ROOM, ltb (length t) (layout_words (length ids)))
    ∷ []

-- what start answers, the layout's length, and what it leaves in the table
unfoldable pub start_of : List ℕ → List ℕ → List ℕ → Outcome (Done ℕ (List ℕ))
start_of ids choices t =
    first_given (start_list ids choices t) (accepted (record { says = layout_words (length ids); leaves = fresh_table ids choices t }))
