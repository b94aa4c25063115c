-- The stream of a packet, as a step of playing finds it.
use Rattle.std.specs.Prelude.{ℕ, List, Option, Some, None}
use Rattle.words.specs.Numbers.{STREAM}
use Rattle.words.specs.Outcome.{Outcome, refused, accepted}
use Rattle.words.specs.Refusals.{first_given}
use Rattle.table.specs.Identifiers.{stream_of}
use Rattle.play.specs.Play.{stream_list}

-- the number of a packet's stream
unfoldable pub sought_of : ℕ → ℕ → List ℕ → Outcome ℕ
sought_of kind identifier t = first_given (stream_list kind identifier t) (accepted (stream_of identifier t))

-- a packet that has none is STREAM
abbrev pub sought_paper : Option ℕ → Outcome ℕ
sought_paper (Some s) = accepted s
sought_paper None = refused STREAM
