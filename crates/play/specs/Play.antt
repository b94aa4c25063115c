-- Document 01: "Play: TABLE, read order, STREAM". "Play answers size, type, stream number (place in the list, from 0) and missing added." Document 02, C-13:
-- each packet is read by its stream's choice; "packets of no declared stream .. stay plain". C-15: "Play passes it on", the place of a refusal.
use Rattle.std.specs.Prelude.{ℕ, Bool, not, List, [], ◌∷◌, ◌++◌, leb, get_or}
use Rattle.words.specs.Numbers.{STREAM, TABLE}
use Rattle.words.specs.Tests.{among, either}
use Rattle.words.specs.Part.{part}
use Rattle.words.specs.Outcome.{Outcome, accepted, Done}
use Rattle.words.specs.Refusals.{Refusals, first_given}
use Rattle.words.specs.Told.{Told, told}
use Rattle.packet.specs.declared.Packet.{Packet}
use Rattle.packet.specs.Parts.{packet_of}
use Rattle.packet.specs.Read.{list_by}
use Rattle.packet.specs.Told.{where_of}
use Rattle.record.specs.After.{record_after, added_by}
use Rattle.table.specs.Layout.{streams_of, record_at, with_record}
use Rattle.table.specs.Identifiers.{stream_of, surveyed}
use Rattle.table.specs.Well.{well_made}
use Rattle.play.specs.declared.Heard.{Heard}

-- what an accepted packet of stream s says, played on the table t
unfoldable pub heard_of : Packet → ℕ → List ℕ → Heard
heard_of p s t = record { size = p.size; kind = p.parts.kind; stream = s; missing = added_by p.parts.kind p.parts.count (record_at s t) }

-- the table after it; the packet's words are the first of ws
unfoldable pub table_after : Packet → ℕ → List ℕ → List ℕ → List ℕ
table_after p s ws t = with_record s (record_after p.parts.kind p.parts.count (part p.place p.length ws) (record_at s t)) t

-- both together
abbrev pub heard_done : Packet → ℕ → List ℕ → List ℕ → Done Heard (List ℕ)
heard_done p s t ws = record { says = heard_of p s t; leaves = table_after p s ws t }

-- ---- the refusals, in their order

-- "table not well made"
abbrev pub table_list : List ℕ → Refusals
table_list t = (TABLE, not (well_made t)) ∷ []

-- "no identifier (types 0, 2), one not declared"
abbrev pub stream_list : ℕ → ℕ → List ℕ → Refusals
stream_list kind identifier t = (STREAM, either (among kind (0 ∷ 2 ∷ [])) (leb (streams_of t) (stream_of identifier t))) ∷ []

-- the choice that the packet at the front of the words is read by: that of its stream
abbrev pub chosen : List ℕ → List ℕ → Bool
chosen t ws = surveyed (packet_of (get_or ws 0 0) ws).parts.identifier t

-- those of a packet on a table that is known to be well made
abbrev pub step_list : List ℕ → List ℕ → Refusals
step_list t ws =
    let p = packet_of (get_or ws 0 0) ws in
    list_by (chosen t ws) (get_or ws 0 0) ws ++ stream_list p.parts.kind p.parts.identifier t

abbrev pub play_list : List ℕ → List ℕ → Refusals
play_list t ws = table_list t ++ step_list t ws

-- ---- what playing answers and leaves

-- a packet on a table that is known to be well made
unfoldable pub step_of : List ℕ → List ℕ → Outcome (Done Heard (List ℕ))
step_of t ws = let p = packet_of (get_or ws 0 0) ws in first_given (step_list t ws) (accepted (heard_done p (stream_of p.parts.identifier t) t ws))

-- a packet on a table
unfoldable pub play_of : List ℕ → List ℕ → Outcome (Done Heard (List ℕ))
play_of t ws = let p = packet_of (get_or ws 0 0) ws in first_given (play_list t ws) (accepted (heard_done p (stream_of p.parts.identifier t) t ws))

-- with the place of each refusal
unfoldable pub play_told : List ℕ → List ℕ → Told (Done Heard (List ℕ))
play_told t ws = told (where_of ws) (play_of t ws)
