-- Tables that the rules fix: what it is for a table to be right for the packets that were played, and the words that are the table's own.
use Rattle.std.specs.Prelude.{◌≡◌, ℕ, ◌<◌, true, List, take, drop, ◌↔◌}
use Rattle.std.proofs.Math.Option.{Option, none, some}
use Rattle.words.specs.Tests.{among}
use Rattle.record.specs.Layout.{held_of, choice_of, counted_types, order_of, count_words, slot_of}
use Rattle.table.specs.Layout.{streams_of, layout_words, record_at}
use Rattle.table.specs.Identifiers.{listed, declared}
use Rattle.table.specs.Well.{well_made}
use Rattle.demands.specs.Listing.{Listing, streams_in, choice_in}
use Rattle.demands.specs.Things.{Thing, tells_of}
use Rattle.demands.specs.Trace.{Arrival, trace_of, own, last_carried, NoneCarried, LastCarried, counts_of, count_rule}

-- the value of a thing that a record holds, if it does: what the held fields tell of it
abbrev pub held_in : Thing → List ℕ → Option (List ℕ)
held_in x r = tells_of x (held_of r) (λ b. slot_of b r)

-- the table t is right for a list of streams and the packets that were played: it is well made and of that list. "Each stream then holds, for every context
-- field document 01 keeps, the value in the last accepted Context packet of that stream that carried the field, and nothing if none did. Its counts are those
-- of its own accepted packets." The fields are read thing by thing.
pub record Right (list : Listing) (packets : List (List ℕ)) (t : List ℕ) : Type 0 where
  pub made : well_made t ≡ true
  pub streams : streams_of t ≡ streams_in list
  pub identifiers : (s : ℕ) → s < streams_in list → declared t s ≡ listed list.ids s
  pub choices : (s : ℕ) → s < streams_in list → choice_of (record_at s t) ≡ choice_in list s
  pub held : (s : ℕ) → s < streams_in list → (x : Thing) → held_in x (record_at s t) ≡ last_carried x (own s (trace_of list packets))
  pub counts : (s : ℕ) → s < streams_in list → (kind : ℕ) → among kind counted_types ≡ true
      → count_words (order_of kind) (record_at s t) ≡ count_rule (counts_of kind (own s (trace_of list packets)))

-- `last_carried` is what the sentence says: a value is that of the last packet that carried the thing, and there is none where none did
abbrev pub LastMeant : Type 0
LastMeant = (x : Thing) (packets : List Arrival)
    → ((v : List ℕ) → (last_carried x packets ≡ some v) ↔ LastCarried x packets v) × ((last_carried x packets ≡ none) ↔ NoneCarried x packets)

-- the words of a table's layout, and those past it
abbrev pub layout_of : Listing → List ℕ → List ℕ
layout_of list t = take (layout_words (streams_in list)) t

abbrev pub past_of : Listing → List ℕ → List ℕ
past_of list t = drop (layout_words (streams_in list)) t

-- the rules leave nothing open: two tables that are right for the same packets have the same layout
abbrev pub Determined : Type 0
Determined = (list : Listing) (packets : List (List ℕ)) (t u : List ℕ) → Right list packets t → Right list packets u → layout_of list t ≡ layout_of list u
