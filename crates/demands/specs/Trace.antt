-- What a trace of packets says by itself: which of them are accepted, by reading and by the list of streams, and the rules that a table is held to. No
-- rule here goes through a table, or through playing: each looks at the packets.
use Rattle.std.specs.Prelude.{◌≡◌, ℕ, ◌+◌, ◌%◌, ◌^◌, Bool, false, List, [], ◌∷◌, ◌++◌, eqb, leb, length, get_or, map}
use Rattle.std.proofs.Math.Option.{Option, none, some}
use Rattle.words.specs.Numbers.{STREAM}
use Rattle.words.specs.Tests.{pick, both, among, either}
use Rattle.words.specs.Word.{has}
use Rattle.words.specs.Part.{part}
use Rattle.words.specs.Outcome.{Outcome, refused, accepted, onward}
use Rattle.words.specs.Refusals.{Refusals, first_given}
use Rattle.words.specs.Told.{Told, told}
use Rattle.fields.specs.Layout.{indicator_of, field_of}
use Rattle.packet.specs.declared.Packet.{Packet}
use Rattle.packet.specs.Parts.{packet_of}
use Rattle.packet.specs.Read.{read_by}
use Rattle.packet.specs.Told.{where_of}
use Rattle.record.specs.Counts.{missed_of}
use Rattle.play.specs.declared.Heard.{Heard}
use Rattle.demands.specs.Listing.{Listing, streams_in, place_in, chosen_in}
use Rattle.demands.specs.Things.{Thing, kept, tells_of, field_by}

-- ---- the packets of a trace

-- an accepted packet of a stream: the stream's number, the packet's type, count and size, and the words of its body
pub record Arrival : Type 0 where
  pub stream : ℕ
  pub kind : ℕ
  pub count : ℕ
  pub size : ℕ
  pub body : List ℕ

-- STREAM of a packet that was read, to a list: "no identifier (types 0, 2), one not declared"
abbrev pub arrival_list : Listing → Packet → Refusals
arrival_list list p = (STREAM, either (among p.parts.kind (0 ∷ 2 ∷ [])) (leb (streams_in list) (place_in list p.parts.identifier))) ∷ []

-- what that packet is to the list: its stream's, where it has one
unfoldable pub arrival_of : Listing → List ℕ → Packet → Outcome Arrival
arrival_of list ws p =
    first_given (arrival_list list p)
    (accepted
    (record {
      stream = place_in list p.parts.identifier;
      kind = p.parts.kind;
      count = p.parts.count;
      size = p.size;
      body = part p.place p.length ws;
    }))

-- what some words are to a list: refused, by reading or with STREAM; or an accepted packet of a stream. They are read by the choice of the stream whose
-- identifier they bear
unfoldable pub arrival_by : Listing → List ℕ → Outcome Arrival
arrival_by list ws = onward (read_by (chosen_in list (packet_of (get_or ws 0 0) ws).parts.identifier) ws) (arrival_of list ws)

-- with the place of each refusal
unfoldable pub heard_by : Listing → List ℕ → Told Arrival
heard_by list ws = told (where_of ws) (arrival_by list ws)

-- packets one after the other, "refused ones among them"
abbrev pub Trace : Type 0
Trace = List (Told Arrival)

abbrev pub trace_of : Listing → List (List ℕ) → Trace
trace_of list packets = map (heard_by list) packets

-- an accepted packet of stream s
abbrev pub is_own : ℕ → Told Arrival → Bool
is_own s (refused r) = false
is_own s (accepted a) = eqb a.stream s

-- "its own accepted packets": those of stream s, in their order
abbrev pub own : ℕ → Trace → List Arrival
own s [] = []
own s (refused r ∷ trace) = own s trace
own s (accepted a ∷ trace) = pick (eqb a.stream s) (a ∷ own s trace) (own s trace)

-- ---- held: "the value in the last accepted Context packet of that stream that carried" a thing, "and nothing if none did"

-- a packet carries the kept field of bit b: it is a Context packet, of type 4, and its indicator has the bit
abbrev pub carries : ℕ → Arrival → Bool
carries b a = both (kept b) (both (eqb a.kind 4) (has (indicator_of a.body) b))

-- the value of a thing that a packet carries: what the fields of a Context packet tell of it
abbrev pub value_carried : Thing → Arrival → Option (List ℕ)
value_carried x a = pick (eqb a.kind 4) (tells_of x (indicator_of a.body) (λ b. field_of b a.body)) none

-- the first that is there
abbrev pub or_else : {A : Type 0} → Option A → Option A → Option A
or_else none y = y
or_else (some x) y = some x

-- the value in the last of these packets that carried the thing: what a later one carried goes before what an earlier one did
abbrev pub last_carried : Thing → List Arrival → Option (List ℕ)
last_carried x [] = none
last_carried x (a ∷ later) = or_else (last_carried x later) (value_carried x a)

-- the same, by a cut of the packets: v is the value in `last`, which carried the thing, and none of the later ones did (`last_meant`, in proofs/RuleLaws.antt)
abbrev pub NoneCarried : Thing → List Arrival → Type 0
NoneCarried x [] = Unit
NoneCarried x (a ∷ later) = (value_carried x a ≡ none) × NoneCarried x later

pub record LastCarried (x : Thing) (packets : List Arrival) (v : List ℕ) : Type 0 where
  pub before : List Arrival
  pub last : Arrival
  pub later : List Arrival
  pub cut : packets ≡ before ++ (last ∷ later)
  pub value : value_carried x last ≡ some v
  pub silent : NoneCarried x later

-- the words of the field of bit b by what these packets carried of its things
abbrev pub field_carried : ℕ → List Arrival → Option (List ℕ)
field_carried b packets = field_by b (λ x. last_carried x packets)

-- ---- counts: "Types 1, 3, 4 and 5 are counted apart within a stream. Each has seen and missing, both kept modulo 2^32, and the last count."

-- the counts of the packets of one type, in their order
abbrev pub counts_of : ℕ → List Arrival → List ℕ
counts_of kind [] = []
counts_of kind (a ∷ later) = pick (eqb a.kind kind) (a.count ∷ counts_of kind later) (counts_of kind later)

-- the last of the counts c and those after it
abbrev pub last_count : ℕ → List ℕ → ℕ
last_count c [] = c
last_count c (d ∷ later) = last_count d later

-- "later ones add (count - last - 1) modulo 16": what the counts after c add together
abbrev pub missed_after : ℕ → List ℕ → ℕ
missed_after c [] = 0
missed_after c (d ∷ later) = missed_of c d + missed_after d later

-- "The first packet adds nothing to missing"
abbrev pub missed : List ℕ → ℕ
missed [] = 0
missed (c ∷ later) = missed_after c later

-- "last plus one or 0 if not started"
abbrev pub last_plus_one : List ℕ → ℕ
last_plus_one [] = 0
last_plus_one (c ∷ later) = last_count c later + 1

-- the three words of a type's count, by the counts of its packets: seen, missing, and last plus one or 0
abbrev pub count_rule : List ℕ → List ℕ
count_rule counts = (length counts % 2 ^ 32) ∷ (missed counts % 2 ^ 32) ∷ last_plus_one counts ∷ []

-- ---- answers: "Play answers size, type, stream number (place in the list, from 0) and missing added."

-- the missing that a packet of count d adds, by the counts of its type before it
abbrev pub added_after : List ℕ → ℕ → ℕ
added_after [] d = 0
added_after (c ∷ later) d = missed_of (last_count c later) d

-- the answer to a packet, by the trace before it
abbrev pub answer_to : Trace → Told Arrival → Told Heard
answer_to before (refused r) = refused r
answer_to before (accepted a) = accepted (record {
  size = a.size;
  kind = a.kind;
  stream = a.stream;
  missing = added_after (counts_of a.kind (own a.stream before)) a.count;
})

-- the answers to the packets of a trace, each by those before it
abbrev pub answers_after : Trace → Trace → List (Told Heard)
answers_after before [] = []
answers_after before (x ∷ later) = answer_to before x ∷ answers_after (before ++ (x ∷ [])) later
