-- What is seen is what is held. The idea: no test refuses a stream of the list and a field of bits 30 to 10 of a right table (`asked`); and what a record
-- shows, or gives as words, is by what it holds (`shows_held`, `words_held`), which the rules fix thing by thing (`held_last`); so are its held indicator
-- (`some_carried_lem`) and its counts (`count_by_lem`).
use Rattle.words.proofs.Kit.{◌≡◌, refl, sym, ap, ◌∙◌, Bool, true, false, List, [], ◌∷◌, ◌++◌, ℕ, ◌+◌, ◌-◌, ◌%◌, ◌^◌, ◌≤◌, ◌<◌, arith, ⊎_elim, ne_eqb, lt-ltb}
use Rattle.words.proofs.Kit.{eqb-true, le-ltb, lt-leb, eqb, leb, length, drop, get_or}
use mathlib.Core.List.{map}
use mathlib.Core.Option.{Option, some, none}
use native.Mathlib.Nat.{lt_of_lt_of_le}
use lib.Pow.{pow_mono}
use borrow.Author.Tests.{leb-true}
use Rattle.words.specs.Numbers.{ROOM}
use Rattle.words.specs.Tests.{pick, both, among, either}
use Rattle.words.specs.Word.{has}
use Rattle.words.specs.Part.{part}
use Rattle.words.specs.Outcome.{refused, accepted}
use Rattle.words.proofs.Cases.{true_or_false, both_left, both_right, both_yes, both_no, pick_same, le_or_lt}
use Rattle.words.proofs.BitLaws.{marked_small, marked_has}
use Rattle.words.proofs.RefusalLaws.{None, none_given}
use Rattle.words.proofs.PartLaws.{part_part}
use Rattle.words.proofs.SetBitLaws.{has_above}
use Rattle.fields.specs.Layout.{indicator_of, field_of}
use Rattle.record.specs.Held.{slot_bits}
use Rattle.record.specs.Layout.{record_words, held_of, counted_types, order_of, count_at, count_words, slot_of, is_held, held_words_in}
use Rattle.record.proofs.GoodLaws.{good_of}
use Rattle.record.proofs.PacketLaws.{order_small}
use Rattle.table.specs.Layout.{base, record_at}
use Rattle.table.specs.Identifiers.{listed}
use Rattle.table.specs.Stream.{stream_number_list}
use Rattle.table.proofs.RecordLaws.{record_identifier}
use Rattle.table.proofs.WellLaws.{well_record}
use Rattle.panel.specs.AllReadings.{record_readings, readings_of}
use Rattle.panel.specs.HeldWords.{held_words_of}
use Rattle.panel.specs.Readings.{absent, shown_of, record_shows, reading_list, reading_of}
use Rattle.panel.proofs.AllReadingLaws.{map_both}
use Rattle.panel_streams.specs.Changed.{differs, changed_in, changed_list, changed_of}
use Rattle.panel_streams.specs.Identity.{Declared, declared_in, identity_of}
use Rattle.panel_streams.specs.TypeCounts.{count_in, type_count_in, type_counts_of}
use Rattle.demands.specs.Listing.{Listing, streams_in, choice_in}
use Rattle.demands.specs.Things.{whole_field, user_bits, field_bit, kept, replaced, is_there, words_by}
use Rattle.demands.specs.Trace.{Arrival, trace_of, own, value_carried, or_else, last_carried, field_carried, counts_of, last_count, count_rule}
use Rattle.demands.specs.Program.{ours}
use Rattle.demands.specs.Right.{held_in, Right}
use Rattle.demands.specs.PanelShows.{shown_by, changed_by, some_carried, count_by, PanelShows}
use Rattle.demands.proofs.HearingLaws.{record_whole}
use Rattle.demands.proofs.RecordLaws.{bit_same}
use Rattle.demands.proofs.RightLaws.{right_listed}
use Rattle.demands.proofs.ThingLaws.{field_held, there_pick, field_same, field_held_lem}
use Rattle.vrt49.proofs.CallLaws.{◌and◌}

-- ---- a record

by_value : (b : ℕ) (held : Bool) (v : List ℕ) → pick held (shown_of b v) absent ≡ shown_by b (pick held (some v) none)
by_value b true v = refl
by_value b false v = refl

by_words : (held : Bool) (v : List ℕ) → pick held v [] ≡ words_by (pick held (some v) none)
by_words true v = refl
by_words false v = refl

shows_held : (b : ℕ) (r : List ℕ) → record_shows b r ≡ shown_by b (field_held b r)
unfolding record_shows is_held
shows_held b r = by_value b (has (held_of r) b) (slot_of b r)

words_held : (b : ℕ) (r : List ℕ) → held_words_in b r ≡ words_by (field_held b r)
unfolding held_words_in is_held
words_held b r = by_words (has (held_of r) b) (slot_of b r)

-- ---- whether a field was carried, and a count

there_else : {A : Type 0} (x y : Option A) → is_there (or_else x y) ≡ either (is_there y) (is_there x)
there_else none none = refl
there_else none (some b) = refl
there_else (some a) none = refl
there_else (some a) (some b) = refl

there_context : {A : Type 0} (k t : Bool) (a : A) → is_there (pick k (pick t (some a) none) none) ≡ both k t
there_context true true a = refl
there_context true false a = refl
there_context false t a = refl

both_moved : (k p h : Bool) → both k (both (both p true) h) ≡ both p (both k h)
both_moved true p h = ap (λ (t : Bool). both t h) (both_yes p)
both_moved false true h = refl
both_moved false false h = refl

-- the user bits are carried where field 16 is
user_carried : (packets : List Arrival) → is_there (last_carried user_bits packets) ≡ some_carried 16 packets
user_carried [] = refl
user_carried (a ∷ later) =
    there_else (last_carried user_bits later) (value_carried user_bits a)
    ∙ rw (there_context (eqb a.kind 4) (has (indicator_of a.body) 16) (get_or (field_of 16 a.body) 0 0 % 2 ^ 8 ∷ []), user_carried later)

field_carried_lem : (b : ℕ) → eqb b 16 ≡ false → (packets : List Arrival) → is_there (last_carried (whole_field b) packets) ≡ some_carried b packets
field_carried_lem b n [] = refl
field_carried_lem b n (a ∷ later) =
    there_else (last_carried (whole_field b) later) (value_carried (whole_field b) a)
    ∙ rw (there_context (eqb a.kind 4) (both (replaced b) (has (indicator_of a.body) b)) (field_of b a.body), field_carried_lem b n later, n)
    (ap (λ (t : Bool). either t (some_carried b later)) (both_moved (eqb a.kind 4) (kept b) (has (indicator_of a.body) b)))

some_carried_lem : (b : ℕ) (packets : List Arrival) → is_there (field_carried b packets) ≡ some_carried b packets
some_carried_lem b packets =
    ⊎_elim
    (λ (e : eqb b 16 ≡ true). let i : b ≡ 16 = eqb-true b 16 e in rw i (there_pick (is_there (last_carried user_bits packets)) _ ∙ user_carried packets))
    (λ (n : eqb b 16 ≡ false). rw n (field_carried_lem b n packets)) (true_or_false (eqb b 16))

-- field 22 is not
never_carried : (packets : List Arrival) → last_carried (whole_field 22) packets ≡ none
never_carried [] = refl
never_carried (a ∷ later) = rw (never_carried later) (pick_same (eqb a.kind 4) none)

count_by_lem : (counts : List ℕ) → count_in (count_rule counts) ≡ count_by counts
unfolding count_in
count_by_lem [] = refl
count_by_lem (c ∷ later) =
    let n : last_count c later + 1 ≡ 0 → ⊥ = λ e. omega (arith, e) in
    let m : last_count c later + 1 - 1 ≡ last_count c later = omega arith in
    rw (ne_eqb (last_count c later + 1) 0 n, m)

-- ---- a right table

module _ (list : Listing) (packets : List (List ℕ)) (t : List ℕ) (r : Right list packets t) (s : ℕ) (h : s < streams_in list) where
  numbered : None (stream_number_list t s)
  numbered = (rw r.made) and (rw (r.streams, lt-leb (streams_in list) s h)) and tt

  asked : (b : ℕ) → field_bit b ≡ true → None (reading_list t s b)
  asked b k =
      let low : 10 ≤ b = leb-true 10 b (both_left (leb 10 b) (leb b 30) k) in
      let high : b ≤ 30 = leb-true b 30 (both_right (leb 10 b) (leb b 30) k) in
      numbered.0 and numbered.1.0 and (rw (le-ltb b 10 low, le-ltb 30 b high)) and tt

  held_last : (b : ℕ) → field_held b (record_at s t) ≡ field_carried b (own s (trace_of list packets))
  held_last b =
      let l = record_whole list t (right_listed r) s h in
      field_held_lem (record_at s t) l (good_of (record_at s t) l (well_record t r.made s (rw r.streams h))) b
      ∙ field_same b (λ x. held_in x (record_at s t)) (λ x. last_carried x (own s (trace_of list packets))) (r.held s h)

  shows_last : (b : ℕ) → record_shows b (record_at s t) ≡ shown_by b (field_carried b (own s (trace_of list packets)))
  shows_last b = shows_held b (record_at s t) ∙ ap (shown_by b) (held_last b)

  pub shown : (b : ℕ) → field_bit b ≡ true → reading_of t s b ≡ accepted (shown_by b (field_carried b (own s (trace_of list packets))))
  unfolding reading_of
  shown b k =
      none_given (reading_list t s b) _ (asked b k) ∙ ap accepted (shows_last b)

  pub all_shown : readings_of t s ≡ accepted (map (λ b. shown_by b (field_carried b (own s (trace_of list packets)))) slot_bits)
  unfolding readings_of record_readings
  all_shown = none_given (stream_number_list t s) _ numbered ∙ ap accepted (map_both _ _ slot_bits slot_bits 0 0 refl (λ i l. shows_last _))

  words_are : (b : ℕ) → held_words_in b (record_at s t) ≡ words_by (field_carried b (own s (trace_of list packets)))
  words_are b = words_held b (record_at s t) ∙ ap words_by (held_last b)

  module _ (b : ℕ) (k : field_bit b ≡ true) (out : List ℕ) where
    pub held_words_last : let ws = words_by (field_carried b (own s (trace_of list packets))) in
        length ws ≤ length out → held_words_of t s b out ≡ accepted (record { says = length ws; leaves = ws ++ drop (length ws) out })
    unfolding held_words_of
    held_words_last g = none_given (reading_list t s b) _ (asked b k) ∙ rw (words_are b, le-ltb _ _ g)

    pub held_words_room : length out < length (words_by (field_carried b (own s (trace_of list packets)))) → held_words_of t s b out ≡ refused ROOM
    unfolding held_words_of
    held_words_room g = none_given (reading_list t s b) _ (asked b k) ∙ rw (words_are b, lt-ltb _ _ g)

  pub counts_stand : (kind : ℕ) → among kind counted_types ≡ true
      → part (base s + count_at (order_of kind)) 3 t ≡ count_rule (counts_of kind (own s (trace_of list packets)))
  unfolding record_at count_words
  counts_stand kind o =
      sym (part_part (count_at (order_of kind)) 3 (base s) record_words t (omega (arith, order_small kind))) ∙ r.counts s h kind o

  pub counts_said : (kind : ℕ) → among kind counted_types ≡ true → type_counts_of t s kind
      ≡ accepted (count_by (counts_of kind (own s (trace_of list packets))))
  unfolding type_counts_of type_count_in
  counts_said kind o =
      none_given (stream_number_list t s) _ numbered
      ∙ rw o (ap accepted (ap count_in (r.counts s h kind o) ∙ count_by_lem (counts_of kind (own s (trace_of list packets)))))

  pub identified : (d : Declared) × (identity_of t s ≡ accepted d) × (d.identifier ≡ listed list.ids s) × (d.choice ≡ choice_in list s)
      × ((b : ℕ) → has d.held b ≡ some_carried b (own s (trace_of list packets)))
  unfolding identity_of declared_in
  identified = (
    declared_in (record_at s t),
    none_given (stream_number_list t s) _ numbered,
    record_identifier s t ∙ r.identifiers s h,
    r.choices s h,
    λ b.
        sym (there_pick (has (held_of (record_at s t)) b) (slot_of b (record_at s t))) ∙ ap is_there (held_last b)
        ∙ some_carried_lem b (own s (trace_of list packets)),
  )

  pub never_shown : (reading_of t s 22 ≡ accepted absent) × ((out : List ℕ) → held_words_of t s 22 out ≡ accepted (record { says = 0; leaves = out }))
  never_shown =
      let none_there : field_carried 22 (own s (trace_of list packets)) ≡ none = never_carried (own s (trace_of list packets)) in (
        shown 22 refl ∙ ap (λ (v : Option (List ℕ)). accepted (shown_by 22 v)) none_there,
        λ out. (rw none_there at (held_words_last 22 refl out)) (omega arith),
      )

  pub shows : PanelShows ours list packets t s
  shows = record {
    reading = shown;
    readings = all_shown;
    held_words = held_words_last;
    no_room = held_words_room;
    over_range = never_shown;
    counts = counts_stand;
    type_counts = counts_said;
    identity = identified;
  }

-- ---- two right tables

module _ (list : Listing) (packets : List (List ℕ)) (t : List ℕ) (r : Right list packets t) (s : ℕ) (h : s < streams_in list)
    (others : Listing) (heard : List (List ℕ)) (u : List ℕ) (q : Right others heard u) (v : ℕ) (g : v < streams_in others) where
  fits : None (changed_list t s u v)
  fits =
      (rw (r.made, q.made)) and (rw (r.streams, q.streams, lt-leb (streams_in list) s h, lt-leb (streams_in others) v g)) and tt

  differs_by : (b : ℕ) → differs (record_at s t) (record_at v u) b
      ≡ changed_by b (field_carried b (own s (trace_of list packets))) (field_carried b (own v (trace_of others heard)))
  unfolding differs
  differs_by b = rw (bit_same b, words_are list packets t r s h b, words_are others heard u q v g b)

  no_bit : (b : ℕ) → 31 ≤ b → field_bit b ≡ false
  no_bit b l = rw (lt-leb b 30 (omega arith), both_no (leb 10 b))

  pub changes : (w : ℕ) × (changed_of t s u v ≡ accepted w)
      × ((b : ℕ) → has w b ≡ changed_by b (field_carried b (own s (trace_of list packets))) (field_carried b (own v (trace_of others heard))))
  unfolding changed_of changed_in
  changes = (
    changed_in (record_at s t) (record_at v u),
    none_given (changed_list t s u v) _ fits,
    λ b.
        ⊎_elim
        (λ (l : 31 ≤ b).
        has_above _ b (lt_of_lt_of_le (marked_small 31 (differs (record_at s t) (record_at v u))) (pow_mono l)) ∙ rw (no_bit b l))
        (λ (l : b < 31). marked_has 31 (differs (record_at s t) (record_at v u)) b l ∙ differs_by b)
        (le_or_lt 31 b),
  )
