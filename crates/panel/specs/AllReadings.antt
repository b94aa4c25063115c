-- All readings of a stream at once: TABLE and STREAM as a reading. Entry by entry they are what a reading answers of the bits 30 to 10 (`readings_each`).
use Rattle.std.specs.Prelude.{ℕ, List, map, Result}
use Rattle.words.specs.Outcome.{Outcome, refused, accepted}
use Rattle.words.specs.Refusals.{first_given}
use Rattle.words.specs.Listed.{on_paper_as}
use Rattle.words.specs.declared.refusals.Refusal.{Refusal}
use Rattle.record.specs.Held.{slot_bits}
use Rattle.table.specs.Layout.{record_at}
use Rattle.table.specs.Stream.{stream_number_list}
use Rattle.panel.specs.Readings.{Reading, record_shows, shown_in}
use Rattle.panel.specs.declared.FieldReading.{FieldReading}

-- what the fields show in a record: that of bit 30 first, that of bit 10 last
unfoldable pub record_readings : List ℕ → List Reading
record_readings r = map (λ bit. record_shows bit r) slot_bits

-- what `readings` answers
unfoldable pub readings_of : List ℕ → ℕ → Outcome (List Reading)
readings_of t stream = first_given (stream_number_list t stream) (accepted (record_readings (record_at stream t)))

-- the number or the values of its answer
abbrev pub readings_paper : Result (List FieldReading) Refusal → Outcome (List Reading)
readings_paper r = on_paper_as (map shown_in) r

-- the same as an entry for each field: its reading, or the refusal in every entry
abbrev pub in_each : Outcome (List Reading) → List (Outcome Reading)
in_each (refused n) = map (λ bit. refused n) slot_bits
in_each (accepted rs) = map accepted rs
