-- What a stream counted of a type: TABLE, STREAM, and VALUE for a type that is not counted. Document 01: "Types 1, 3, 4 and 5 are counted apart within a
-- stream. Each has seen and missing, both kept modulo 2^32, and the last count."
use Rattle.std.specs.Prelude.{ℕ, ◌-◌, List, not, eqb, [], ◌∷◌, ◌++◌, Option, None, Some, Result}
use Rattle.words.specs.Numbers.{VALUE}
use Rattle.words.specs.Tests.{pick, among}
use Rattle.words.specs.Outcome.{Outcome, accepted}
use Rattle.words.specs.Refusals.{Refusals, first_given}
use Rattle.words.specs.Listed.{on_paper_as}
use Rattle.words.specs.declared.refusals.Refusal.{Refusal}
use Rattle.record.specs.Layout.{counted_types, order_of, count_words, seen_of, missing_of, last_of}
use Rattle.table.specs.Layout.{record_at}
use Rattle.table.specs.Stream.{stream_number_list}
use Rattle.panel_streams.specs.declared.records.TypeCounts.{TypeCounts}

-- a type's count: seen, missing and the last count; or not started
pub data Count : Type 0 where
  started : ℕ → ℕ → ℕ → Count
  not_started : Count

-- by its three words, of which the third is "last plus one or 0 if not started"
unfoldable pub count_in : List ℕ → Count
count_in ws = pick (eqb (last_of ws) 0) not_started (started (seen_of ws) (missing_of ws) (last_of ws - 1))

-- the count of a type in a record
unfoldable pub type_count_in : ℕ → List ℕ → Count
type_count_in kind r = count_in (count_words (order_of kind) r)

-- a type that is not counted
abbrev pub type_list : ℕ → Refusals
type_list kind = (VALUE, not (among kind counted_types)) ∷ []

abbrev pub type_counts_list : List ℕ → ℕ → ℕ → Refusals
type_counts_list t stream kind = stream_number_list t stream ++ type_list kind

-- what `counts` answers
unfoldable pub type_counts_of : List ℕ → ℕ → ℕ → Outcome Count
type_counts_of t stream kind = first_given (type_counts_list t stream kind) (accepted (type_count_in kind (record_at stream t)))

-- the values of its answer
abbrev pub count_as : Option TypeCounts → Count
count_as (Some c) = started c.seen c.missing c.last
count_as None = not_started

-- and the number of a refusal
abbrev pub type_counts_paper : Result (Option TypeCounts) Refusal → Outcome Count
type_counts_paper r = on_paper_as count_as r
