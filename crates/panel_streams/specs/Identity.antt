-- Who a stream is, and what it holds: TABLE, STREAM. Its identifier, its choice (document 02, C-13), and its held indicator, of which bit b is set exactly
-- where the field of bit b is held.
use Rattle.std.specs.Prelude.{ℕ, List, Result}
use Rattle.words.specs.Outcome.{Outcome, accepted}
use Rattle.words.specs.Refusals.{first_given}
use Rattle.words.specs.Listed.{on_paper_as}
use Rattle.words.specs.declared.refusals.Refusal.{Refusal}
use Rattle.record.specs.Layout.{identifier_of, held_of, choice_of}
use Rattle.table.specs.Layout.{record_at}
use Rattle.table.specs.Stream.{stream_number_list}
use Rattle.panel_streams.specs.declared.records.Identity.{Identity}

-- an identifier, a choice, and a held indicator
pub record Declared : Type 0 where
  pub identifier : ℕ
  pub choice : ℕ
  pub held : ℕ

-- those of a record
unfoldable pub declared_in : List ℕ → Declared
declared_in r = record { identifier = identifier_of r; choice = choice_of r; held = held_of r }

-- what `identity` answers
unfoldable pub identity_of : List ℕ → ℕ → Outcome Declared
identity_of t stream = first_given (stream_number_list t stream) (accepted (declared_in (record_at stream t)))

-- the values of its answer
abbrev pub declared_as : Identity → Declared
declared_as i = record { identifier = i.identifier; choice = i.choice; held = i.held }

-- and the number of a refusal
abbrev pub identity_paper : Result Identity Refusal → Outcome Declared
identity_paper r = on_paper_as declared_as r
