-- A stream's record. Its first words are those of its body in a page: identifier, held indicator, "for types 1, 3, 4, 5 three words each (seen,
-- missing, last plus one or 0 if not started)", and the choice, of which document 02, C-13 says that "the page body records it in one word more"; then a slot
-- for each held field, in field order.
use Rattle.std.specs.Prelude.{ℕ, ◌+◌, ◌*◌, Bool, List, [], ◌∷◌, eqb, get_or}
use Rattle.words.specs.Tests.{pick}
use Rattle.words.specs.Word.{has}
use Rattle.words.specs.Part.{part}
use Rattle.fields.specs.Sizes.{field_size}
use Rattle.record.specs.Held.{slot_at}

-- the words before the slots, those of the slots, and all
abbrev pub head_words : ℕ
head_words = 15

abbrev pub slot_words : ℕ
slot_words = 74

abbrev pub record_words : ℕ
record_words = head_words + slot_words

-- ---- what stands where

abbrev pub identifier_of : List ℕ → ℕ
identifier_of r = get_or r 0 0

-- the held indicator
abbrev pub held_of : List ℕ → ℕ
held_of r = get_or r 1 0

-- "Types 1, 3, 4 and 5 are counted apart within a stream"
abbrev pub counted_types : List ℕ
counted_types = 1 ∷ 3 ∷ 4 ∷ 5 ∷ []

-- the place of each among them
unfoldable pub order_of : ℕ → ℕ
order_of kind = pick (eqb kind 1) 0 (pick (eqb kind 3) 1 (pick (eqb kind 4) 2 3))

-- where the count of a type begins, by the type's order
abbrev pub count_at : ℕ → ℕ
count_at k = 2 + 3 * k

-- its three words
unfoldable pub count_words : ℕ → List ℕ → List ℕ
count_words k r = part (count_at k) 3 r

abbrev pub seen_of : List ℕ → ℕ
seen_of count = get_or count 0 0

abbrev pub missing_of : List ℕ → ℕ
missing_of count = get_or count 1 0

-- last plus one, or 0 where the count has not started
abbrev pub last_of : List ℕ → ℕ
last_of count = get_or count 2 0

-- the choice: "plain 49.0 (word 0) or 49A (1)"
abbrev pub choice_of : List ℕ → ℕ
choice_of r = get_or r 14 0

-- the slot of bit b among the slots, and in a record
unfoldable pub slot_in : ℕ → List ℕ → List ℕ
slot_in b slots = part (slot_at b) (field_size b) slots

unfoldable pub slots_of : List ℕ → List ℕ
slots_of r = part head_words slot_words r

unfoldable pub slot_of : ℕ → List ℕ → List ℕ
slot_of b r = slot_in b (slots_of r)

-- a record holds the field of bit b
unfoldable pub is_held : ℕ → List ℕ → Bool
is_held b r = has (held_of r) b

-- the words that it holds for the field: none where the field is absent
unfoldable pub held_words_in : ℕ → List ℕ → List ℕ
held_words_in b r = pick (is_held b r) (slot_of b r) []
