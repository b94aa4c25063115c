-- Document 01, 'Readings for the panel': "A reading is a frequency, a level, a gain pair, a temperature, other (held, nothing more said), or absent"; and
-- "Reading: TABLE, STREAM, VALUE".
use Rattle.std.specs.Prelude.{ℕ, Bool, true, List, [], ◌∷◌, ◌++◌, eqb, ltb, leb, get_or, ℤ, Float, Result}
use Rattle.words.specs.Numbers.{VALUE}
use Rattle.words.specs.Tests.{pick, both, either}
use Rattle.words.specs.Outcome.{Outcome, accepted}
use Rattle.words.specs.Refusals.{Refusals, first_given}
use Rattle.words.specs.Listed.{on_paper_as}
use Rattle.words.specs.declared.refusals.Refusal.{Refusal}
use Rattle.record.specs.Layout.{slot_of, is_held}
use Rattle.table.specs.Layout.{record_at}
use Rattle.table.specs.Stream.{stream_number_list}
use Rattle.panel.specs.Values.{units_of, floor_div, floor_rem, over, lower_half, upper_half}
use Rattle.panel.specs.declared.FieldReading.{FieldReading}
use Rattle.panel.specs.declared.FieldReading.TheVariants as dial

-- a reading, with its values
pub data Reading : Type 0 where
  frequency : ℤ → ℕ → Reading
  level : Float → Reading
  gain : Float → Float → Reading
  temperature : Float → Reading
  other : Reading
  absent : Reading

-- "Frequencies (29 to 25, 21)"
unfoldable pub is_frequency : ℕ → Bool
is_frequency bit = pick (eqb bit 21) true (both (leb 25 bit) (leb bit 29))

-- what the field of a bit shows, by its words. Frequencies "are whole hertz rounded down, and 0 to 1,048,575 parts of 2^20. Level is the lower half, signed,
-- over 128; a gain reading shows both stages together (stage 1 the lower half, stage 2 the upper), each over 128; temperature over 64"
unfoldable pub shown_of : ℕ → List ℕ → Reading
shown_of bit ws =
    pick (is_frequency bit) (frequency (floor_div (units_of (get_or ws 0 0) (get_or ws 1 0)) 1048576)
    (floor_rem (units_of (get_or ws 0 0) (get_or ws 1 0)) 1048576))
    (pick (eqb bit 24) (level (over 7 (lower_half (get_or ws 0 0))))
    (pick (eqb bit 23) (gain (over 7 (lower_half (get_or ws 0 0))) (over 7 (upper_half (get_or ws 0 0))))
    (pick (eqb bit 18) (temperature (over 6 (lower_half (get_or ws 0 0))))
    other)))

-- what the field of a bit shows in a record: absent where it is not held
unfoldable pub record_shows : ℕ → List ℕ → Reading
record_shows bit r = pick (is_held bit r) (shown_of bit (slot_of bit r)) absent

-- "a field bit is not 30 to 10"
abbrev pub bit_list : ℕ → Refusals
bit_list bit = (VALUE, either (ltb bit 10) (ltb 30 bit)) ∷ []

-- "Reading: TABLE, STREAM, VALUE": the first two as of every stream's number
abbrev pub reading_list : List ℕ → ℕ → ℕ → Refusals
reading_list t stream bit = stream_number_list t stream ++ bit_list bit

-- what `reading` answers
unfoldable pub reading_of : List ℕ → ℕ → ℕ → Outcome Reading
reading_of t stream bit = first_given (reading_list t stream bit) (accepted (record_shows bit (record_at stream t)))

-- the values of its answer
abbrev pub shown_in : FieldReading → Reading
shown_in (dial.Frequency hertz parts) = frequency hertz parts
shown_in (dial.Level x) = level x
shown_in (dial.Gain g) = gain g.stage1 g.stage2
shown_in (dial.Temperature x) = temperature x
shown_in dial.Other = other
shown_in dial.Absent = absent

-- and the number of a refusal
abbrev pub reading_paper : Result FieldReading Refusal → Outcome Reading
reading_paper r = on_paper_as shown_in r
