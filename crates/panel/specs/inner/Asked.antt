-- What is asked before a reading: TABLE, STREAM and VALUE; and VALUE alone.
use Rattle.std.specs.Prelude.{ℕ, List}
use Rattle.words.specs.Outcome.{Outcome, accepted}
use Rattle.words.specs.Refusals.{first_given}
use Rattle.panel.specs.Readings.{bit_list, reading_list}

-- whether a bit is that of a field
unfoldable pub bit_checks : ℕ → Outcome Unit
bit_checks bit = first_given (bit_list bit) (accepted tt)

-- whether a field may be asked for
unfoldable pub asked_of : List ℕ → ℕ → ℕ → Outcome Unit
asked_of t stream bit = first_given (reading_list t stream bit) (accepted tt)
