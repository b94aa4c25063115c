-- Playing on a table of a list, as the trace tells it. The idea: a table of the list looks an identifier and its choice up as the list does (`place_same`,
-- `chosen_same`), so play is reading and the list, and then one record replaced (`play_is`); what reading accepts is fine to replace a record by
-- (`heard_fine`).
use Rattle.words.proofs.Kit.{◌≡◌, refl, sym, ap, ◌∙◌, Bool, true, false, ⊎_elim, List, [], ◌∷◌, ℕ, zero, suc, ◌≤◌, ◌<◌, arith, ltb-false, lt-ltb, le-ltb}
use Rattle.words.proofs.Kit.{eqb, leb, length, get_or}
use borrow.Author.Tests.{leb-false}
use Rattle.words.specs.Tests.{among}
use Rattle.words.specs.Outcome.{Outcome, Reply, refused, accepted, onward, Done, left_of}
use Rattle.words.specs.Told.{told}
use Rattle.words.proofs.Cases.{le_or_lt, onward_passed, accepted_same}
use Rattle.words.proofs.RefusalLaws.{first_passed, either_passed, onward_first}
use Rattle.words.proofs.ToldLaws.{told_accepted, told_onward}
use Rattle.words.proofs.AllLaws.{first_one}
use Rattle.fields.specs.Layout.{context_of}
use Rattle.packet.specs.declared.Packet.{Packet}
use Rattle.packet.specs.Header.{type_of}
use Rattle.packet.specs.Parts.{parts_of, packet_of}
use Rattle.packet.specs.Read.{header_list, read_by}
use Rattle.packet.specs.Told.{where_of}
use Rattle.packet.specs.inner.Steps.{header_checks}
use Rattle.packet.proofs.ReadLaws.{read_accepts, count_small, body_context}
use Rattle.record.specs.Layout.{record_words, choice_of, counted_types}
use Rattle.record.specs.After.{record_after, added_by}
use Rattle.record.proofs.PacketLaws.{after_length}
use Rattle.table.specs.Layout.{streams_of, Has, record_at, with_record}
use Rattle.table.specs.Identifiers.{listed, declared, stream_of, surveyed}
use Rattle.table.specs.Well.{well_made}
use Rattle.table.proofs.RecordLaws.{record_length, record_with, record_with_other}
use Rattle.table.proofs.ListLaws.{stream_is}
use Rattle.table.proofs.WellLaws.{well_whole, layout_has}
use Rattle.play.specs.declared.Heard.{Heard}
use Rattle.play.specs.Play as Play
use Rattle.play.specs.Play.{table_after, step_of, play_of, play_told}
use Rattle.play.specs.inner.Steps.{sought_of}
use Rattle.play.proofs.PlayLaws.{step_read, play_step}
use Rattle.play.proofs.KeepLaws.{play_keeps}
use Rattle.demands.specs.Listing.{Listing, streams_in, choice_in, place_in, chosen_in}
use Rattle.demands.specs.Trace.{Arrival, arrival_list, arrival_of, arrival_by, heard_by}

-- ---- what a heard packet is

pub record Heeded (list : Listing) (a : Arrival) : Type 0 where
  pub stream : a.stream < streams_in list
  pub count : a.count < 16
  pub kind : among a.kind counted_types ≡ true
  pub body : a.kind ≡ 4 → context_of a.body ≡ accepted tt

-- a type up to 5 that is not 0 or 2 is counted
types : (kind : ℕ) → kind ≤ 5 → among kind (0 ∷ 2 ∷ []) ≡ false → among kind counted_types ≡ true
types zero h e = sym e
types (suc zero) h e = refl
types (suc (suc zero)) h e = sym e
types (suc (suc (suc zero))) h e = refl
types (suc (suc (suc (suc zero)))) h e = refl
types (suc (suc (suc (suc (suc zero))))) h e = refl
types (suc (suc (suc (suc (suc (suc k)))))) h e = absurd (omega arith)

read_type : (survey : Bool) (ws : List ℕ) (p : Packet) → read_by survey ws ≡ accepted p → p.parts.kind ≤ 5
unfolding header_checks packet_of parts_of
read_type survey ws p e =
    let k = read_accepts survey ws p e in
    rw (← k.says) (ltb-false 5 (type_of (get_or ws 0 0)) (first_passed (header_list (get_or ws 0 0)) _ tt k.passes.header).0.0)

pub heard_fine : (list : Listing) (ws : List ℕ) (a : Arrival) → heard_by list ws ≡ accepted a → Heeded list a
unfolding heard_by arrival_by arrival_of
heard_fine list ws a e =
    let choice = chosen_in list (packet_of (get_or ws 0 0) ws).parts.identifier in
    let k = onward_passed (read_by choice ws) (arrival_of list ws) a (told_accepted (where_of ws) (arrival_by list ws) a e) in
    let p = k.0 in
    let x = first_passed (arrival_list list p) _ a k.2 in
    let y = either_passed (among p.parts.kind (0 ∷ 2 ∷ [])) (leb (streams_in list) (place_in list p.parts.identifier)) x.0.0 in
    rw (← accepted_same x.1)
    (record {
      stream = leb-false (streams_in list) (place_in list p.parts.identifier) y.1;
      count = count_small choice ws p k.1;
      kind = types p.parts.kind (read_type choice ws p k.1) y.0;
      body = body_context choice ws p k.1;
    })

-- ---- a table of a list

pub record Listed (list : Listing) (t : List ℕ) : Type 0 where
  pub made : well_made t ≡ true
  pub streams : streams_of t ≡ streams_in list
  pub identifiers : (s : ℕ) → s < streams_in list → declared t s ≡ listed list.ids s
  pub choices : (s : ℕ) → s < streams_in list → choice_of (record_at s t) ≡ choice_in list s

-- what is answered and left, of a packet that is its stream's
abbrev pub heard_on : List ℕ → Arrival → Heard
heard_on t a = record { size = a.size; kind = a.kind; stream = a.stream; missing = added_by a.kind a.count (record_at a.stream t) }

abbrev pub record_on : List ℕ → Arrival → List ℕ
record_on t a = record_after a.kind a.count a.body (record_at a.stream t)

abbrev pub done_on : {R : Type 0} → List ℕ → Arrival → Reply R (Done Heard (List ℕ))
done_on t a = accepted (record { says = heard_on t a; leaves = with_record a.stream (record_on t a) t })

module _ (list : Listing) (t : List ℕ) (l : Listed list t) where
  pub place_same : (identifier : ℕ) → stream_of identifier t ≡ place_in list identifier
  unfolding place_in
  place_same identifier =
      let q = stream_is identifier t in
      first_one (streams_in list) (stream_of identifier t) (λ s. eqb (listed list.ids s) identifier)
      (record {
        most = omega (arith, q.most, l.streams);
        passes = λ h. ap (λ (n : ℕ). eqb n identifier) (sym (l.identifiers (stream_of identifier t) h)) ∙ q.passes (omega (arith, l.streams));
        before = λ i h. ap (λ (n : ℕ). eqb n identifier) (sym (l.identifiers i (omega (arith, q.most, l.streams)))) ∙ q.before i h;
      })

  -- and so it has the list's choices
  chosen_same : (identifier : ℕ) → surveyed identifier t ≡ chosen_in list identifier
  unfolding surveyed chosen_in
  chosen_same identifier =
      let s = place_in list identifier in
      let n = streams_in list in
      rw (place_same identifier, l.streams)
      (⊎_elim (λ h. rw (le-ltb s n h)) (λ h. rw (lt-ltb s n h, l.choices s h)) (le_or_lt n s))

  heard_read : (ws : List ℕ) (o : Outcome Packet) → read_by (Play.chosen t ws) ws ≡ o → step_of t ws ≡ onward (onward o (arrival_of list ws)) (done_on t)
  unfolding arrival_of sought_of Play.heard_of table_after
  heard_read ws (refused n) e = rw (step_read, e)
  heard_read ws (accepted p) e =
      rw (step_read, e, place_same p.parts.identifier, l.streams) (onward_first (arrival_list list p) _ _ ∙ sym (onward_first (arrival_list list p) _ _))

  -- play is reading and the list, and then one record replaced
  play_by : (ws : List ℕ) → play_of t ws ≡ onward (arrival_by list ws) (done_on t)
  unfolding arrival_by
  play_by ws =
      let identifier = (packet_of (get_or ws 0 0) ws).parts.identifier in
      play_step t ws l.made
      ∙ heard_read ws (read_by (chosen_in list identifier) ws) (ap (λ (survey : Bool). read_by survey ws) (chosen_same identifier))

  pub play_is : (ws : List ℕ) → play_told t ws ≡ onward (heard_by list ws) (done_on t)
  unfolding heard_by play_told
  play_is ws = ap (told (where_of ws)) (play_by ws) ∙ told_onward (where_of ws) (arrival_by list ws) (done_on t)

  -- the table stays one of the list
  pub listed_on : (ws : List ℕ) → Listed list (left_of (play_told t ws) t)
  listed_on ws =
      let k = play_keeps t ws in
      record {
        made = k.well l.made;
        streams = k.streams ∙ l.streams;
        identifiers = λ s h. k.list s ∙ l.identifiers s h;
        choices = λ s h. k.choices s ∙ l.choices s h;
      }

  has_record : (s : ℕ) → s < streams_in list → Has s t
  has_record s h = layout_has t s (well_whole t l.made) (omega (arith, l.streams))

  pub record_whole : (s : ℕ) → s < streams_in list → length (record_at s t) ≡ record_words
  record_whole s h = record_length s t (has_record s h)

  -- the records afterwards
  module _ (a : Arrival) (f : Heeded list a) where
    new_whole : length (record_on t a) ≡ record_words
    new_whole = after_length a.kind a.count a.body (record_at a.stream t) (record_whole a.stream f.stream) f.body

    pub record_own : record_at a.stream (with_record a.stream (record_on t a) t) ≡ record_on t a
    record_own = record_with a.stream (record_on t a) t (has_record a.stream f.stream) new_whole

    pub record_other : (s : ℕ) → (s ≡ a.stream → ⊥) → record_at s (with_record a.stream (record_on t a) t) ≡ record_at s t
    record_other s n = record_with_other a.stream (record_on t a) t (has_record a.stream f.stream) new_whole s n
