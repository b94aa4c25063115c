-- Five useless programs, each shut out by a demand: no program of its kind, whatever its other calls do, meets the demand. The idea: the demand fixes what a
-- table holds or an answer says for two short recordings, and the useless program would have to give one thing for both.
use Rattle.words.proofs.Kit.{◌≡◌, refl, sym, ap, ◌∙◌, List, [], ◌∷◌, ℕ, ◌+◌, ◌-◌, ◌%◌, arith, eqb, get_or}
use mathlib.Core.Option.{Option, none, some}
use lib.ListN.{replicate, length-replicate}
use Rattle.words.specs.Tests.{pick}
use Rattle.words.specs.Part.{part}
use Rattle.words.specs.SetBits.{bits_of, above}
use Rattle.words.specs.All.{all, first_of}
use Rattle.words.specs.declared.Where.TheVariants.{Nowhere}
use Rattle.words.specs.Outcome.{refused, accepted, Done, said_of, left_of}
use Rattle.words.specs.Told.{RefusalTold, Told, refusal}
use Rattle.fields.specs.Sizes.{field_size, words_of}
use Rattle.fields.specs.Rules.{rule_of}
use Rattle.fields.specs.Layout.{span_of, obeyed, body_words, place_of, field_of, low_bits_set, other_length, rule_broken}
use Rattle.packet.specs.declared.Packet.{Packet}
use Rattle.packet.specs.Header.{count_of, trailed, tsm_of, reserved_of}
use Rattle.packet.specs.Parts.{streamed, has_seconds, has_fraction, class_at, seconds_at, fraction_at, body_at, required_of, body_length, word_if, class_high}
use Rattle.packet.specs.Parts.{class_low}
use Rattle.packet.specs.Parts.{fraction_of, parts_of, body_of, packet_of}
use Rattle.packet.specs.Read.{time_over, class_bad, read_by}
use Rattle.packet.specs.Told.{read_told}
use Rattle.record.specs.Layout.{order_of, count_words, seen_of, last_of}
use Rattle.record.specs.Counts.{missed_of}
use Rattle.table.specs.Layout.{record_at}
use Rattle.record.specs.Good.{choice_good}
use Rattle.table.specs.Identifiers.{apart, list_good, choices_good}
use Rattle.play.specs.declared.Heard.{Heard}
use Rattle.demands.specs.Listing.{Listing, Valid, place_in, chosen_in}
use Rattle.demands.specs.Things.{Thing, whole_field}
use Rattle.demands.specs.Trace.{Arrival, arrival_of, arrival_by, heard_by, trace_of, own, last_carried, counts_of, count_rule, added_after, answer_to}
use Rattle.demands.specs.Program.{Program, play_all}
use Rattle.demands.specs.Right.{held_in, Right}
use Rattle.demands.specs.Resumed.{over, plays}
use Rattle.demands.specs.Demands.{Demand2, Demand3}

-- ---- packets of stream 7: sample data of three and of four words, and Context packets that carry one word, in the field of bit 30

abbrev list : Listing
list = record { ids = 7 ∷ []; choices = 0 ∷ [] }

abbrev data3 : List ℕ
data3 = 0x140F0003 ∷ 7 ∷ 0 ∷ []

abbrev data4 : List ℕ
data4 = 0x140F0004 ∷ 7 ∷ 1 ∷ 0 ∷ []

abbrev first : List ℕ
first = 0x40000004 ∷ 7 ∷ 0x40000000 ∷ 1 ∷ []

abbrev second : List ℕ
second = 0x40000004 ∷ 7 ∷ 0x40000000 ∷ 2 ∷ []

abbrev size_read : Told Packet → ℕ
size_read (refused r) = 0
size_read (accepted p) = p.size

-- what reading and the list make of them
record Computed : Type 0 where
  read3 : (p : Packet) × (read_told data3 ≡ accepted p) × (p.size ≡ 3)
  read4 : (p : Packet) × (read_told data4 ≡ accepted p) × (p.size ≡ 4)
  heard3 : heard_by list data3 ≡ accepted (record { stream = 0; kind = 1; count = 15; size = 3; body = [] })
  heard_first : heard_by list first ≡ accepted (record { stream = 0; kind = 4; count = 0; size = 4; body = 0x40000000 ∷ 1 ∷ [] })
  heard_second : heard_by list second ≡ accepted (record { stream = 0; kind = 4; count = 0; size = 4; body = 0x40000000 ∷ 2 ∷ [] })
  field_first : field_of 30 (0x40000000 ∷ 1 ∷ []) ≡ 1 ∷ []
  field_second : field_of 30 (0x40000000 ∷ 2 ∷ []) ≡ 2 ∷ []

computed : Computed
unfolding heard_by arrival_by read_told arrival_of place_in chosen_in first_of trailed tsm_of reserved_of streamed has_seconds has_fraction class_at
    seconds_at fraction_at body_at required_of body_length word_if class_high class_low fraction_of parts_of body_of packet_of part time_over class_bad
    read_by low_bits_set other_length rule_broken body_words span_of obeyed rule_of words_of field_size bits_of above place_of field_of
computed = record {
  read3 = (_, refl, refl);
  read4 = (_, refl, refl);
  heard3 = refl;
  heard_first = refl;
  heard_second = refl;
  field_first = refl;
  field_second = refl;
}

-- ---- demand 2's layouts

-- a constant refusal
pub no_constant_refusal : (P : Program) (r : RefusalTold) → ((ws : List ℕ) → P.read ws ≡ refused r) → Demand2 P → ⊥
no_constant_refusal P r same d =
    let e : refused r ≡ accepted computed.read3.0 = sym (same data3) ∙ d.reads data3 ∙ computed.read3.1 in
    let z : ◌≡◌ {A = ℕ} 0 3 = ap size_read e ∙ computed.read3.2 in
    omega (arith, z)

-- a constant answer: the same for every packet that is legal
pub no_constant_answer : (P : Program) (p : Packet) → ((ws : List ℕ) (q : Packet) → read_told ws ≡ accepted q → P.read ws ≡ accepted p) → Demand2 P → ⊥
no_constant_answer P p same d =
    let three : p.size ≡ 3 =
    ap size_read (sym (same data3 computed.read3.0 computed.read3.1) ∙ d.reads data3 ∙ computed.read3.1) ∙ computed.read3.2 in
    let four : p.size ≡ 4 =
    ap size_read (sym (same data4 computed.read4.0 computed.read4.1) ∙ d.reads data4 ∙ computed.read4.1) ∙ computed.read4.2 in
    omega (arith, three, four)

-- ---- demand 3

-- a fresh table for stream 7
abbrev buffer : List ℕ
buffer = replicate 90 0

-- the word that is held
abbrev value_in : Option (List ℕ) → ℕ
value_in none = 0
value_in (some v) = get_or v 0 0

-- the last count of a stream and a type that a table keeps, plus one, or 0
abbrev last_in : List ℕ → ℕ → ℕ → ℕ
last_in t s kind = last_of (count_words (order_of kind) (record_at s t))

-- what a packet adds to missing, but for the one
abbrev without_one : ℕ → ℕ → ℕ
without_one last count = pick (eqb last 0) 0 ((count + 16 - (last - 1)) % 16)

good_list : Valid list
unfolding list_good apart all choices_good choice_good
good_list = (refl, refl)

module _ (P : Program) (d : Demand3 P) where
  begun : (e : Done ℕ (List ℕ)) × (P.start list.ids list.choices buffer ≡ accepted e)
  begun = d.starts list buffer good_list (omega (arith, length-replicate {A = ℕ} 90 0))

  abbrev fresh : List ℕ
  fresh = begun.0.leaves

  -- the table after some packets of stream 7
  after : (packets : List (List ℕ)) → Right list packets (play_all P begun.0.leaves packets)
  after packets = d.right list buffer begun.0 begun.1 packets

  seen_after : (packets : List (List ℕ))
      → count_words (order_of 1) (record_at 0 (play_all P begun.0.leaves packets)) ≡ count_rule (counts_of 1 (own 0 (trace_of list packets)))
  seen_after packets = (after packets).counts 0 (omega arith) 1 refl

  held_after_lem : (packets : List (List ℕ))
      → held_in (whole_field 30) (record_at 0 (play_all P begun.0.leaves packets)) ≡ last_carried (whole_field 30) (own 0 (trace_of list packets))
  held_after_lem packets = (after packets).held 0 (omega arith) (whole_field 30)

  -- an idle play: shut out by the counts
  pub no_idle_play : ((t ws : List ℕ) → left_of (P.play t ws) t ≡ t) → ⊥
  no_idle_play idle =
      let none_seen : seen_of (count_words (order_of 1) (record_at 0 fresh)) ≡ 0 = ap seen_of (seen_after []) in
      let one : seen_of (count_words (order_of 1) (record_at 0 (left_of (P.play fresh data3) fresh))) ≡ 1 =
      ap seen_of (seen_after (data3 ∷ [])) ∙ rw computed.heard3 in
      omega (arith, none_seen, sym (ap (λ (t : List ℕ). seen_of (count_words (order_of 1) (record_at 0 t))) (idle fresh data3)) ∙ one)

  -- one that plays the first packet and feigns the rest, so that no later packet changes what is held: shut out by the last-carried rule
  pub no_feigned_rest : ((list : Listing) (t : List ℕ) (e : Done ℕ (List ℕ)) → P.start list.ids list.choices t ≡ accepted e
      → (ws : List ℕ) (rest : List (List ℕ)) (s : ℕ) (x : Thing)
      → held_in x (record_at s (play_all P e.leaves (ws ∷ rest))) ≡ held_in x (record_at s (play_all P e.leaves (ws ∷ [])))) → ⊥
  no_feigned_rest feigned =
      let one : value_in (held_in (whole_field 30) (record_at 0 (play_all P fresh (first ∷ [])))) ≡ 1 =
      ap value_in (held_after_lem (first ∷ [])) ∙ rw (computed.heard_first, computed.field_first) in
      let two : value_in (held_in (whole_field 30) (record_at 0 (play_all P fresh (first ∷ second ∷ [])))) ≡ 2 =
      ap value_in (held_after_lem (first ∷ second ∷ [])) ∙ rw (computed.heard_first, computed.heard_second, computed.field_second) in
      let same = ap value_in (feigned list buffer begun.0 begun.1 first (second ∷ []) 0 (whole_field 30)) in
      omega (arith, one, two, same)

  -- an invented missing number, made of the table, the packet's words, its stream and its type in any way that is not the rule's for some packet on some table
  -- that is right: shut out by the modulo 16 rule
  pub no_invented_missing : (number : (table words : List ℕ) (stream kind : ℕ) → ℕ)
      → ((t ws : List ℕ) (h : Heard) → said_of (P.play t ws) ≡ accepted h → h.missing ≡ number t ws h.stream h.kind)
      → (list : Listing) (packets : List (List ℕ)) (t : List ℕ) → Right list packets t → (ws : List ℕ) (a : Arrival) → heard_by list ws ≡ accepted a
      → (number t ws a.stream a.kind ≡ added_after (counts_of a.kind (own a.stream (trace_of list packets))) a.count → ⊥) → ⊥
  no_invented_missing number invented list packets t r ws a e other =
      let one = d.days list packets (ws ∷ []) t _ _ [] r (plays ws over) in
      let said : said_of (P.play t ws) ≡ answer_to (trace_of list packets) (heard_by list ws) =
      ap (λ (l : List (Told Heard)). get_or l 0 (refused (refusal 0 Nowhere))) one.ruled in
      other (sym (invented t ws _ (said ∙ ap (answer_to (trace_of list packets)) e)))

  -- one that the packet alone gives, whatever was counted before
  pub no_missing_by_packet : (number : List ℕ → ℕ) → ((t ws : List ℕ) (h : Heard) → said_of (P.play t ws) ≡ accepted h → h.missing ≡ number ws) → ⊥
  unfolding missed_of
  no_missing_by_packet number invented =
      no_invented_missing (λ t ws s k. number ws) invented list [] fresh (after []) data3 _ computed.heard3
      (λ none-missing.
      no_invented_missing (λ t ws s k. number ws) invented list (data3 ∷ []) _ (after (data3 ∷ [])) data3 _ computed.heard3
      (λ some-missing.
      let fifteen : number data3 ≡ 15 = some-missing ∙ rw computed.heard3 in
      omega (arith, none-missing, fifteen)))

  -- one that is made from the table: count less last modulo 16, without the one
  pub no_missing_without_one : ((t ws : List ℕ) (h : Heard) → said_of (P.play t ws) ≡ accepted h
      → h.missing ≡ without_one (last_in t h.stream h.kind) (count_of (get_or ws 0 0))) → ⊥
  unfolding missed_of
  no_missing_without_one invented =
      no_invented_missing (λ t ws s k. without_one (last_in t s k) (count_of (get_or ws 0 0))) invented
      list (data3 ∷ []) _ (after (data3 ∷ [])) data3 _ computed.heard3
      (λ same.
      let last : last_in (play_all P fresh (data3 ∷ [])) 0 1 ≡ 16 = ap last_of (seen_after (data3 ∷ [])) ∙ rw computed.heard3 in
      let z : ◌≡◌ {A = ℕ} 0 15 = sym (ap (λ (n : ℕ). without_one n (count_of (get_or data3 0 0))) last) ∙ same ∙ rw computed.heard3 in
      omega (arith, z))
