-- What is asked before a stream is looked at: TABLE and STREAM.
use Rattle.std.specs.Prelude.{ℕ, List}
use Rattle.words.specs.Outcome.{Outcome, accepted}
use Rattle.words.specs.Refusals.{first_given}
use Rattle.table.specs.Stream.{stream_number_list}

-- whether a stream may be asked for
unfoldable pub stream_checks : List ℕ → ℕ → Outcome Unit
stream_checks t stream = first_given (stream_number_list t stream) (accepted tt)
