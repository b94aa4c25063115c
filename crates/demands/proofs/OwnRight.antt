-- A stream's own table is right. The idea: to the list of one stream a packet is stream 0's own exactly where it is the stream's in the whole list (`own_one`):
-- one that bears its identifier is read alike (`alone_chosen`), and no other is its own, however it is read (`own-apart`); and no rule looks at a stream's
-- number (`last_moved`, `counts_moved`).
use Rattle.words.proofs.Kit.{◌≡◌, refl, sym, ap, ap₂, subst, ◌∙◌, Bool, true, false, ⊎_elim, List, [], ◌∷◌, ◌++◌, ℕ, zero, suc, ◌≤◌, ◌<◌, arith, eq-eqb}
use Rattle.words.proofs.Kit.{ne_eqb, eqb-true, le-ltb, lt-ltb, lt-leb, eqb, leb, length, get_or, drop}
use mathlib.Core.List.{map, map-append}
use mathlib.Core.Option.{Option}
use Rattle.words.specs.declared.Where.{Where}
use Rattle.words.specs.Numbers.{STREAM}
use Rattle.words.specs.Tests.{pick, either, among}
use Rattle.words.specs.Outcome.{Outcome, refused, accepted, onward}
use Rattle.words.specs.Told.{told}
use Rattle.words.proofs.Cases.{same_or_not}
use Rattle.words.proofs.RefusalLaws.{none_given}
use Rattle.words.proofs.AllLaws.{first_is, first_one}
use Rattle.packet.specs.declared.Packet.{Packet}
use Rattle.packet.specs.Parts.{packet_of}
use Rattle.packet.specs.Read.{read_by}
use Rattle.packet.specs.Told.{where_of}
use Rattle.packet.proofs.ReadLaws.{read_accepts}
use Rattle.record.specs.Layout.{record_words, identifier_of, choice_of, counted_types, order_of, count_words}
use Rattle.table.specs.Layout.{streams_of, base, record_at}
use Rattle.table.specs.Identifiers.{listed, declared}
use Rattle.table.proofs.RecordLaws.{record_length, record_identifier}
use Rattle.table.proofs.WellLaws.{layout_has, well_whole, well_of}
use Rattle.panel_streams.specs.OwnTable.{own_layout, own_done, own_table_list, own_table_of}
use Rattle.panel_streams.proofs.OwnLaws.{own_streams, own_record, own_well}
use Rattle.demands.specs.Listing.{Listing, streams_in, choice_in, place_in, chosen_in}
use Rattle.demands.specs.Things.{Thing}
use Rattle.demands.specs.Trace.{Arrival, arrival_of, arrival_by, heard_by, trace_of, own, value_carried, or_else, last_carried, counts_of, count_rule}
use Rattle.demands.specs.Program.{ours}
use Rattle.demands.specs.Right.{held_in, Right}
use Rattle.demands.specs.OwnRight.{alone_in, OwnRight}
use Rattle.vrt49.proofs.CallLaws.{◌and◌}
use Rattle.demands.proofs.RuleLaws.{own_append}

-- ---- a packet as stream 0's: no rule sees the difference

abbrev moved : Arrival → Arrival
moved a = record { stream = 0; kind = a.kind; count = a.count; size = a.size; body = a.body }

last_moved : (x : Thing) (packets : List Arrival) → last_carried x (map moved packets) ≡ last_carried x packets
last_moved x [] = refl
last_moved x (a ∷ later) = ap (λ (o : Option (List ℕ)). or_else o (value_carried x a)) (last_moved x later)

counts_moved : (kind : ℕ) (packets : List Arrival) → counts_of kind (map moved packets) ≡ counts_of kind packets
counts_moved kind [] = refl
counts_moved kind (a ∷ later) = ap (λ (l : List ℕ). pick (eqb a.kind kind) (a.count ∷ l) l) (counts_moved kind later)

-- a packet of both, one of no stream, and one of another: t says that it has no identifier, and u that it is not declared
module _ (place : ℕ → Where) where
  abbrev own_of : ℕ → Outcome Arrival → List Arrival
  own_of s o = own s (told place o ∷ [])

  of_both : (s : ℕ) (t : Bool) (a : Arrival) → a.stream ≡ s
      → own_of 0 (pick (either t false) (refused STREAM) (accepted (moved a))) ≡ map moved (own_of s (pick (either t false) (refused STREAM) (accepted a)))
  of_both s true a e = refl
  of_both s false a e = rw (eq-eqb a.stream s e)

  of_none : (t : Bool) (a : Arrival) → own_of 0 (pick (either t true) (refused STREAM) (accepted a)) ≡ []
  of_none true a = refl
  of_none false a = refl

  of_others : (s : ℕ) (t u : Bool) (a : Arrival) → (a.stream ≡ s → ⊥) → own_of s (pick (either t u) (refused STREAM) (accepted a)) ≡ []
  of_others s true u a n = refl
  of_others s false true a n = refl
  of_others s false false a n = rw (ne_eqb a.stream s n)

-- what holds of stream 0 holds of every stream of one
at_first : (C : ℕ → Type 0) → C 0 → (u : ℕ) → u < 1 → C u
at_first C c zero h = c
at_first C c (suc u) h = absurd (omega (arith, h))

-- ---- a stream of a list without one twice, and the list of its identifier alone

module _ (list : Listing) (s : ℕ) (h : s < streams_in list)
    (apart : (u v : ℕ) → u < v → v < streams_in list → listed list.ids u ≡ listed list.ids v → ⊥) where
  abbrev alone : Listing
  alone = alone_in list s

  place_own : (i : ℕ) → listed list.ids s ≡ i → place_in list i ≡ s
  unfolding place_in
  place_own i e =
      sym (first_one (streams_in list) s (λ u. eqb (listed list.ids u) i)
      (record {
        most = omega (arith, h);
        passes = λ g. eq-eqb (listed list.ids s) i e;
        before = λ u g. ne_eqb (listed list.ids u) i (λ f. apart u s g h (f ∙ sym e));
      }))

  place_other : (i : ℕ) → (listed list.ids s ≡ i → ⊥) → place_in list i ≡ s → ⊥
  unfolding place_in
  place_other i n e =
      let q = first_is (streams_in list) (λ u. eqb (listed list.ids u) i) in
      n (eqb-true (listed list.ids s) i (subst (λ (u : ℕ). eqb (listed list.ids u) i ≡ true) e (q.passes (omega (arith, e, h)))))

  alone_own : (i : ℕ) → listed list.ids s ≡ i → place_in alone i ≡ 0
  unfolding place_in
  alone_own i e =
      sym (first_one 1 0 (λ u. eqb (listed alone.ids u) i)
      (record { most = omega arith; passes = λ g. eq-eqb (listed list.ids s) i e; before = λ u g. absurd (omega (arith, g)) }))

  alone_other : (i : ℕ) → (listed list.ids s ≡ i → ⊥) → place_in alone i ≡ 1
  unfolding place_in
  alone_other i n =
      sym (first_one 1 1 (λ u. eqb (listed alone.ids u) i)
      (record {
        most = omega arith;
        passes = λ g. absurd (omega (arith, g));
        before = at_first (λ u. eqb (listed alone.ids u) i ≡ false) (ne_eqb (listed list.ids s) i n);
      }))

  -- a packet that bears the stream's identifier is read by the same choice, and is of both
  module _ (i : ℕ) (e : listed list.ids s ≡ i) where
    alone_chosen : chosen_in alone i ≡ chosen_in list i
    unfolding chosen_in
    alone_chosen = rw (place_own i e, alone_own i e, lt-ltb s (streams_in list) h)

    own_packet : (ws : List ℕ) (p : Packet) → p.parts.identifier ≡ i → own_of (where_of ws) 0 (arrival_of alone ws p)
        ≡ map moved (own_of (where_of ws) s (arrival_of list ws p))
    unfolding arrival_of
    own_packet ws p k =
        rw (k, place_own i e, alone_own i e, lt-leb (streams_in list) s h) (of_both (where_of ws) s (among p.parts.kind (0 ∷ 2 ∷ [])) _ refl)

    own_read : (ws : List ℕ) (o : Outcome Packet) → ((p : Packet) → o ≡ accepted p → p.parts.identifier ≡ i)
        → own_of (where_of ws) 0 (onward o (arrival_of alone ws)) ≡ map moved (own_of (where_of ws) s (onward o (arrival_of list ws)))
    own_read ws (refused k) borne = refl
    own_read ws (accepted p) borne = own_packet ws p (borne p refl)

  -- one that bears another is of neither
  module _ (i : ℕ) (n : listed list.ids s ≡ i → ⊥) (ws : List ℕ) where
    apart_alone : (o : Outcome Packet) → ((p : Packet) → o ≡ accepted p → p.parts.identifier ≡ i) → own_of (where_of ws) 0 (onward o (arrival_of alone ws)) ≡ []
    unfolding arrival_of
    apart_alone (refused k) borne = refl
    apart_alone (accepted p) borne = rw (borne p refl, alone_other i n) (of_none (where_of ws) (among p.parts.kind (0 ∷ 2 ∷ [])) _)

    apart_list : (o : Outcome Packet) → ((p : Packet) → o ≡ accepted p → p.parts.identifier ≡ i) → own_of (where_of ws) s (onward o (arrival_of list ws)) ≡ []
    unfolding arrival_of
    apart_list (refused k) borne = refl
    apart_list (accepted p) borne =
        rw (borne p refl) (of_others (where_of ws) s (among p.parts.kind (0 ∷ 2 ∷ [])) (leb (streams_in list) (place_in list i)) _ (place_other i n))

  own_heard_lem : (ws : List ℕ) → own 0 (heard_by alone ws ∷ []) ≡ map moved (own s (heard_by list ws ∷ []))
  unfolding heard_by arrival_by
  own_heard_lem ws =
      let i = (packet_of (get_or ws 0 0) ws).parts.identifier in
      let borne : (survey : Bool) (p : Packet) → read_by survey ws ≡ accepted p → p.parts.identifier ≡ i =
      λ survey p e. ap (λ (q : Packet). q.parts.identifier) (sym (read_accepts survey ws p e).says) in
      ⊎_elim
      (λ (e : listed list.ids s ≡ i). rw (alone_chosen i e) (own_read i e ws (read_by (chosen_in list i) ws) (borne (chosen_in list i))))
      (λ (n : listed list.ids s ≡ i → ⊥).
      apart_alone i n ws (read_by (chosen_in alone i) ws) (borne (chosen_in alone i))
      ∙ ap (map moved) (sym (apart_list i n ws (read_by (chosen_in list i) ws) (borne (chosen_in list i)))))
      (same_or_not (listed list.ids s) i)

  own_one : (packets : List (List ℕ)) → own 0 (trace_of alone packets) ≡ map moved (own s (trace_of list packets))
  own_one [] = refl
  own_one (ws ∷ packets) =
      own_append 0 (heard_by alone ws ∷ []) (trace_of alone packets) ∙ ap₂ (λ (xs ys : List Arrival). xs ++ ys) (own_heard_lem ws) (own_one packets)
      ∙ sym (map-append moved (own s (heard_by list ws ∷ [])) (own s (trace_of list packets)))
      ∙ ap (map moved) (sym (own_append s (heard_by list ws ∷ []) (trace_of list packets)))

-- ---- the own table

module _ (list : Listing) (packets : List (List ℕ)) (t : List ℕ) (r : Right list packets t) (s : ℕ) (h : s < streams_in list) where
  there : s < streams_of t
  there = omega (arith, h, r.streams)

  long : length (record_at s t) ≡ record_words
  long = record_length s t (layout_has t s (well_whole t r.made) there)

  apart : (u v : ℕ) → u < v → v < streams_in list → listed list.ids u ≡ listed list.ids v → ⊥
  apart u v g k e =
      (well_of t r.made).list.apart u v g (omega (arith, k, r.streams)) (r.identifiers u (omega arith) ∙ e ∙ sym (r.identifiers v k))

  same_own : own 0 (trace_of (alone_in list s) packets) ≡ map moved (own s (trace_of list packets))
  same_own = own_one list s h apart packets

  right_alone : (x : List ℕ) → Right (alone_in list s) packets (own_layout (record_at s t) ++ x)
  right_alone x =
      let mine = own_layout (record_at s t) ++ x in
      let is = own_record (record_at s t) x long in
      record {
        made = own_well t x s r.made there;
        streams = own_streams (record_at s t) x long;
        identifiers = at_first (λ u. declared mine u ≡ listed (alone_in list s).ids u)
            (sym (record_identifier 0 mine) ∙ ap identifier_of is ∙ record_identifier s t ∙ r.identifiers s h);
        choices = at_first (λ u. choice_of (record_at u mine) ≡ choice_in (alone_in list s) u) (ap choice_of is ∙ r.choices s h);
        held = at_first (λ u. (x : Thing) → held_in x (record_at u mine) ≡ last_carried x (own u (trace_of (alone_in list s) packets)))
            (λ x. ap (held_in x) is ∙ r.held s h x ∙ sym (last_moved x (own s (trace_of list packets))) ∙ ap (last_carried x) (sym same_own));
        counts = at_first (λ u. (kind : ℕ) → among kind counted_types ≡ true
            → count_words (order_of kind) (record_at u mine) ≡ count_rule (counts_of kind (own u (trace_of (alone_in list s) packets))))
            (λ kind o.
            ap (count_words (order_of kind)) is ∙ r.counts s h kind o
            ∙ ap count_rule (sym (counts_moved kind (own s (trace_of list packets))) ∙ ap (counts_of kind) (sym same_own)));
      }

  pub own_right : (out : List ℕ) → base 1 ≤ length out → OwnRight ours list packets t s out
  unfolding own_table_of
  own_right out room = record {
    done = own_done (record_at s t) out;
    accepts = none_given (own_table_list t s out) _
        ((rw r.made) and (rw (r.streams, lt-leb (streams_in list) s h)) and (le-ltb (length out) (base 1) room) and tt);
    right = right_alone (drop (base 1) out);
  }
