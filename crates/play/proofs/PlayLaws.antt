-- Playing a packet. The idea: the record of the packet's stream is lent, so the table afterwards is `with_record` of the record afterwards (`lent_leaves`), and
-- that is what hearing the packet leaves (`heard_data`, `heard_context`).
use Rattle.words.proofs.Kit.{◌≡◌, refl, sym, ap, ◌∙◌, true, false, ⊎_elim, List, [], ◌++◌, ℕ, ◌+◌, ◌-◌, ◌≤◌, ◌<◌, arith, not-false, length, take, drop, get_or}
use native.Mathlib.Nat.{le_trans}
use Rattle.words.specs.Part.{part}
use mathlib.Core.Logic.{◌⊎◌, inl, inr}
use Rattle.words.specs.Numbers.{STREAM, TABLE}
use Rattle.words.specs.Outcome.{Outcome, refused, accepted, onward}
use Rattle.words.specs.Refusals.{first_given}
use Rattle.words.proofs.Cases.{true_or_false}
use Rattle.words.proofs.RefusalLaws.{first_passed, onward_first}
use Rattle.words.proofs.PartLaws.{seen, lent_to, part_length}
use Rattle.fields.specs.Layout.{context_of}
use Rattle.packet.specs.declared.Packet.{Packet}
use Rattle.packet.specs.Header.{type_of, count_of}
use Rattle.packet.specs.Parts.{body_at, body_length, parts_of, packet_of}
use Rattle.packet.specs.Read.{list_by, read_by}
use Rattle.packet.proofs.ReadLaws.{read_inside, body_inside, body_context}
use Rattle.record.specs.Layout.{record_words}
use Rattle.record.specs.After.{record_after, added_by}
use Rattle.record.specs.Good.{record_good}
use Rattle.record.proofs.PacketLaws.{after_body}
use Rattle.table.specs.Layout.{streams_of, base, record_at, with_record}
use Rattle.table.specs.Identifiers.{stream_of}
use Rattle.table.specs.Well.{well_made}
use Rattle.table.proofs.WellLaws.{well_whole, well_record, layout_has}
use Rattle.play.specs.Play.{table_after, heard_done, table_list, stream_list, chosen, step_of, play_of}
use Rattle.play.specs.inner.Steps.{sought_of}
use Rattle.play.specs.inner.Entered.{Headed, HeardAs}
use Rattle.play.proofs.StreamLaws.{sought_number}

-- ---- the record of a stream, as it is lent

module _ (at s : ℕ) (t : List ℕ) (e : at ≡ base s) where
  record_seen : take (at + record_words - at) (drop at t) ≡ record_at s t
  unfolding record_at
  record_seen = rw e (seen (base s) (base s + record_words) record_words t refl)

  module _ (w : well_made t ≡ true) (h : s < streams_of t) where
    pub lent_inside : at + record_words ≤ length t
    lent_inside = rw e (layout_has t s (well_whole t w) h)

    pub lent_length : length (take (at + record_words - at) (drop at t)) ≡ record_words
    unfolding record_at
    lent_length = rw record_seen (part_length (base s) record_words t (rw e at lent_inside))

    pub lent_good : record_good (take (at + record_words - at) (drop at t)) ≡ true
    lent_good = rw record_seen (well_record t w s h)

  -- what hearing a packet of header w leaves of it is its record in the table afterwards
  module _ (w kind count : ℕ) (k : kind ≡ type_of w) (c : count ≡ count_of w) where
    pub lent_adds : (more : ℕ) → more ≡ added_by kind count (take (at + record_words - at) (drop at t)) → more
        ≡ added_by (type_of w) (count_of w) (record_at s t)
    lent_adds more m = rw (record_seen, k, c) at m

    pub lent_leaves : (body last : List ℕ) → last ≡ record_after kind count body (take (at + record_words - at) (drop at t))
        → take at t ++ (last ++ drop (at + record_words - at) (drop at t)) ≡ with_record s (record_after (type_of w) (count_of w) body (record_at s t)) t
    unfolding with_record record_at
    lent_leaves body last l =
        rw (← k, ← c, ← e) (lent_to at (at + record_words) record_words (record_after kind count body) last t refl l)

-- ---- the body of a Context packet, as it is lent

module _ (w from to : ℕ) (ws lent : List ℕ) (p : Headed w ws lent) (f : from ≡ body_at w) (g : to ≡ body_at w + body_length w) where
  pub body_starts : from ≤ to
  body_starts = omega (arith, f, g)

  pub body_ends : to ≤ length ws
  unfolding packet_of
  body_ends = rw g (le_trans (body_inside (chosen lent ws) ws (packet_of w ws) p.reads) (read_inside (chosen lent ws) ws (packet_of w ws) p.reads))

  body_seen : take (to - from) (drop from ws) ≡ part (body_at w) (body_length w) ws
  body_seen = rw (f, g) (seen (body_at w) (body_at w + body_length w) (body_length w) ws refl)

  module _ (k : type_of w ≡ 4) where
    pub body_good : context_of (take (to - from) (drop from ws)) ≡ accepted tt
    unfolding packet_of parts_of
    body_good = ap context_of body_seen ∙ body_context (chosen lent ws) ws (packet_of w ws) p.reads k

    -- the packet, heard by stream s
    pub heard_context : (at s : ℕ) (t : List ℕ) (count more : ℕ) (last : List ℕ) → at ≡ base s → count ≡ count_of w
        → more ≡ added_by 4 count (take (at + record_words - at) (drop at t))
        → last ≡ record_after 4 count (take (to - from) (drop from ws)) (take (at + record_words - at) (drop at t))
        → HeardAs w s ws t more (take at t ++ (last ++ drop (at + record_words - at) (drop at t)))
    unfolding packet_of parts_of table_after
    heard_context at s t count more last e c m l = record {
      adds = lent_adds at s t e w 4 count (sym k) c more m;
      leaves = lent_leaves at s t e w 4 count (sym k) c (take (to - from) (drop from ws)) last l ∙ rw body_seen;
    }

-- ---- a packet of a type other than 4, heard by stream s: its body does not matter

pub heard_data : (w s more : ℕ) (ws t left : List ℕ) → (type_of w ≡ 4 → ⊥) → more ≡ added_by (type_of w) (count_of w) (record_at s t)
    → left ≡ with_record s (record_after (type_of w) (count_of w) [] (record_at s t)) t → HeardAs w s ws t more left
unfolding packet_of parts_of table_after
heard_data w s more ws t left n m l = record {
  adds = m;
  leaves = l ∙ ap (λ (r : List ℕ). with_record s r t) (after_body (type_of w) (count_of w) [] (part (body_at w) (body_length w) ws) (record_at s t) n);
}

-- ---- a packet on a table that is well made: it is read, its stream is looked for, and it is heard

pub step_read : (t ws : List ℕ)
    → step_of t ws ≡ onward (read_by (chosen t ws) ws) (λ p. onward (sought_of p.parts.kind p.parts.identifier t) (λ s. accepted (heard_done p s t ws)))
unfolding step_of read_by sought_of
step_read t ws =
    let p = packet_of (get_or ws 0 0) ws in
    let list = list_by (chosen t ws) (get_or ws 0 0) ws in
    let streams = stream_list p.parts.kind p.parts.identifier t in
    sym (onward_first list p _ ∙ ap (first_given list) (onward_first streams (stream_of p.parts.identifier t) _))

-- ---- a packet on any table

module _ (t ws : List ℕ) where
  pub play_refuses : well_made t ≡ false → play_of t ws ≡ refused TABLE
  unfolding play_of
  play_refuses w = rw w

  -- on a well-made table it is the step
  pub play_step : well_made t ≡ true → play_of t ws ≡ step_of t ws
  unfolding play_of step_of
  play_step w = rw w

  -- on a well-made table a packet is refused by reading, or, where it was read, with STREAM
  abbrev pub Unheard : ℕ → Type 0
  Unheard n = (read_by (chosen t ws) ws ≡ refused n) ⊎ ((n ≡ STREAM) × ((p : Packet) × (read_by (chosen t ws) ws ≡ accepted p)))

  undeclared : (p : Packet) → read_by (chosen t ws) ws ≡ accepted p → (o : Outcome ℕ) (n : ℕ) → sought_of p.parts.kind p.parts.identifier t ≡ o
      → onward o (λ s. accepted (heard_done p s t ws)) ≡ refused n → Unheard n
  undeclared p e (refused m) n f g = inr (cc (sought_number p.parts.kind p.parts.identifier t m f), (p, e))
  undeclared p e (accepted s) n f g = let z : ◌≡◌ {A = ℕ} 0 1 = cc in absurd (omega arith)

  unstepped : (o : Outcome Packet) (n : ℕ) → read_by (chosen t ws) ws ≡ o
      → onward o (λ p. onward (sought_of p.parts.kind p.parts.identifier t) (λ s. accepted (heard_done p s t ws))) ≡ refused n → Unheard n
  unstepped (refused m) n e f = let i : m ≡ n = cc in inl (rw (← i) e)
  unstepped (accepted p) n e f = undeclared p e (sought_of p.parts.kind p.parts.identifier t) n refl f

  pub step_unheard : (n : ℕ) → well_made t ≡ true → play_of t ws ≡ refused n → Unheard n
  step_unheard n w e = unstepped (read_by (chosen t ws) ws) n refl (sym (play_step w ∙ step_read t ws) ∙ e)

  -- and else with TABLE
  pub play_unheard : (n : ℕ) → play_of t ws ≡ refused n → (n ≡ TABLE) ⊎ Unheard n
  play_unheard n e =
      ⊎_elim (λ (w : well_made t ≡ true). inr (step_unheard n w e))
      (λ (w : well_made t ≡ false). let r = sym (play_refuses w) ∙ e in inl (cc))
      (true_or_false (well_made t))
