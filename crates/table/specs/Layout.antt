-- The table's layout: word 0 is S, the number of streams; then S records, in the order of the list. What lies past them is none of the table's: "words past
-- it are neither read nor changed".
use Rattle.std.specs.Prelude.{ℕ, ◌+◌, ◌*◌, ◌≤◌, List, length, get_or}
use Rattle.words.specs.Part.{part, put}
use Rattle.record.specs.Layout.{record_words}

-- S
abbrev pub streams_of : List ℕ → ℕ
streams_of t = get_or t 0 0

-- where the record of stream s begins
abbrev pub base : ℕ → ℕ
base s = 1 + record_words * s

-- the words of the layout of n streams: S, and n records
abbrev pub layout_words : ℕ → ℕ
layout_words n = 1 + record_words * n

-- a table has the record of stream s
abbrev pub Has : ℕ → List ℕ → Type 0
Has s t = base s + record_words ≤ length t

-- the record of stream s, and the table with it replaced
unfoldable pub record_at : ℕ → List ℕ → List ℕ
record_at s t = part (base s) record_words t

unfoldable pub with_record : ℕ → List ℕ → List ℕ → List ℕ
with_record s r t = put (base s) record_words r t
