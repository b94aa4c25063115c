-- What the panel and the caller see is what is held: `reading`, `readings` and `held_words` answer by the values in the last accepted Context packets of the
-- stream that carried the things of the field, "and nothing if none did"; `counts` by its own accepted packets; `identity` by the list and by which fields were
-- carried; `changed` by the values in two tables.
use Rattle.std.specs.Prelude.{◌≡◌, ℕ, ◌+◌, ◌%◌, ◌^◌, ◌≤◌, ◌<◌, Bool, true, false, not, List, [], ◌∷◌, ◌++◌, length, drop, map}
use Rattle.std.proofs.Math.Option.{Option, none, some}
use Rattle.words.specs.Numbers.{ROOM}
use Rattle.words.specs.Tests.{among, both, either, same_words}
use Rattle.words.specs.Word.{has}
use Rattle.words.specs.Part.{part}
use Rattle.words.specs.Outcome.{refused, accepted}
use Rattle.record.specs.Held.{slot_bits}
use Rattle.record.specs.Layout.{counted_types, order_of, count_at}
use Rattle.table.specs.Layout.{base}
use Rattle.table.specs.Identifiers.{listed}
use Rattle.panel.specs.Readings.{Reading, absent, shown_of}
use Rattle.panel_streams.specs.Identity.{Declared}
use Rattle.panel_streams.specs.TypeCounts.{Count, started, not_started}
use Rattle.demands.specs.Things.{field_bit, words_by}
use Rattle.demands.specs.Listing.{Listing, choice_in}
use Rattle.demands.specs.Trace.{Arrival, trace_of, own, carries, field_carried, counts_of, last_count, missed, count_rule}
use Rattle.demands.specs.Program.{Program}

-- what a reading shows of the field of bit b, by the value that was carried, if one was
abbrev pub shown_by : ℕ → Option (List ℕ) → Reading
shown_by b none = absent
shown_by b (some v) = shown_of b v

-- the field of bit b is one of bits 30 to 10, and two values of it are not the same, absent being no words
abbrev pub changed_by : ℕ → Option (List ℕ) → Option (List ℕ) → Bool
changed_by b x y = both (field_bit b) (not (same_words (words_by x) (words_by y)))

-- some of these packets carried the field of bit b
abbrev pub some_carried : ℕ → List Arrival → Bool
some_carried b [] = false
some_carried b (a ∷ later) = either (carries b a) (some_carried b later)

-- a count, by the counts of the packets of its type: seen and missing "kept modulo 2^32, and the last count"; or not started
abbrev pub count_by : List ℕ → Count
count_by [] = not_started
count_by (c ∷ later) = started (length (c ∷ later) % 2 ^ 32) (missed (c ∷ later) % 2 ^ 32) (last_count c later)

-- of stream s, in a table t that is right for the packets
pub record PanelShows (P : Program) (list : Listing) (packets : List (List ℕ)) (t : List ℕ) (s : ℕ) : Type 0 where
  pub reading : (b : ℕ) → field_bit b ≡ true → P.reading t s b ≡ accepted (shown_by b (field_carried b (own s (trace_of list packets))))
  -- all of them, from bit 30 down to bit 10
  pub readings : P.readings t s ≡ accepted (map (λ b. shown_by b (field_carried b (own s (trace_of list packets)))) slot_bits)
  -- the words, where they fit; and ROOM
  pub held_words : (b : ℕ) → field_bit b ≡ true → (out : List ℕ)
      → let ws = words_by (field_carried b (own s (trace_of list packets))) in
      length ws ≤ length out → P.held_words t s b out ≡ accepted (record { says = length ws; leaves = ws ++ drop (length ws) out })
  pub no_room : (b : ℕ) → field_bit b ≡ true → (out : List ℕ) → length out < length (words_by (field_carried b (own s (trace_of list packets))))
      → P.held_words t s b out ≡ refused ROOM
  -- of field 22, the over-range count, nothing is ever held
  pub over_range : (P.reading t s 22 ≡ accepted absent) × ((out : List ℕ) → P.held_words t s 22 out ≡ accepted (record { says = 0; leaves = out }))
  -- seen, missing and last plus one or 0, where docs/LAYOUT.md says that they stand
  pub counts : (kind : ℕ) → among kind counted_types ≡ true
      → part (base s + count_at (order_of kind)) 3 t ≡ count_rule (counts_of kind (own s (trace_of list packets)))
  -- and as `counts` answers them
  pub type_counts : (kind : ℕ) → among kind counted_types ≡ true → P.counts t s kind ≡ accepted (count_by (counts_of kind (own s (trace_of list packets))))
  -- the list's identifier and choice; and a bit of the held indicator is set exactly where some accepted Context packet of the stream carried the field
  pub identity : (d : Declared) × (P.identity t s ≡ accepted d) × (d.identifier ≡ listed list.ids s) × (d.choice ≡ choice_in list s)
      × ((b : ℕ) → has d.held b ≡ some_carried b (own s (trace_of list packets)))
