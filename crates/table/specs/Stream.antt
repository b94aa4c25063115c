-- What a call that is handed a table and a stream's number asks first. Document 01, 'Numbers given back': TABLE, "table not well made"; STREAM, "a stream
-- number not in the table".
use Rattle.std.specs.Prelude.{ℕ, not, List, [], ◌∷◌, leb}
use Rattle.words.specs.Numbers.{TABLE, STREAM}
use Rattle.words.specs.Refusals.{Refusals}
use Rattle.table.specs.Layout.{streams_of}
use Rattle.table.specs.Well.{well_made}

-- 0 to S - 1 are in the table
abbrev pub stream_number_list : List ℕ → ℕ → Refusals
stream_number_list t stream = (TABLE, not (well_made t)) ∷ (STREAM, leb (streams_of t) stream) ∷ []
