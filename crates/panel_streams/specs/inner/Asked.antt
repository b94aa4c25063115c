-- What is asked of the record of a stream, its own refusals first; and what is asked before two records are held against each other.
use Rattle.std.specs.Prelude.{ℕ, List}
use Rattle.words.specs.Outcome.{Outcome, accepted, Done}
use Rattle.words.specs.Refusals.{first_given}
use Rattle.panel_streams.specs.TypeCounts.{Count, type_list, type_count_in}
use Rattle.panel_streams.specs.OwnTable.{own_list, own_done}
use Rattle.panel_streams.specs.Changed.{changed_list}

-- the count of a type in a record
unfoldable pub count_asked : ℕ → List ℕ → Outcome Count
count_asked kind r = first_given (type_list kind) (accepted (type_count_in kind r))

-- a record as a table of its own
unfoldable pub own_asked : List ℕ → List ℕ → Outcome (Done ℕ (List ℕ))
own_asked r out = first_given (own_list out) (accepted (own_done r out))

-- whether two streams may be asked for
unfoldable pub changed_checks : List ℕ → ℕ → List ℕ → ℕ → Outcome Unit
changed_checks t s u v = first_given (changed_list t s u v) (accepted tt)
