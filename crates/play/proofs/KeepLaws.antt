-- What play keeps. The idea: an accepted packet replaces one record by a good one of the same identifier and choice (`well_with`), so the table stays well
-- made, with its list and the words past its layout.
use Rattle.words.proofs.Kit.{◌≡◌, refl, sym, ap, ◌∙◌, true, ⊎_elim, List, ℕ, ◌<◌, not-false, length, drop}
use Rattle.words.specs.Part.{part}
use Rattle.words.specs.Outcome.{Outcome, refused, accepted, Done, left_of}
use Rattle.words.proofs.Cases.{true_or_false, same_or_not, onward_passed, accepted_same}
use Rattle.words.proofs.ToldLaws.{told_accepted, told_left}
use Rattle.words.proofs.RefusalLaws.{first_passed}
use Rattle.fields.specs.Layout.{context_of}
use Rattle.packet.specs.declared.Packet.{Packet}
use Rattle.packet.specs.Read.{read_by}
use Rattle.packet.specs.Told.{where_of}
use Rattle.packet.proofs.ReadLaws.{count_small, body_context}
use Rattle.record.specs.Layout.{record_words, identifier_of, choice_of}
use Rattle.record.specs.After.{record_after}
use Rattle.record.proofs.PacketLaws.{after_length, after_identifier, after_choice, after_good}
use Rattle.table.specs.Layout.{streams_of, base, Has, record_at, with_record}
use Rattle.table.specs.Identifiers.{declared}
use Rattle.table.specs.Well.{well_made}
use Rattle.table.proofs.RecordLaws.{record_length, record_identifier, record_with, record_with_other, with_length, streams_with, past_with}
use Rattle.table.proofs.WellLaws.{well_whole, well_record, layout_has, list_with, well_with}
use Rattle.play.specs.declared.Heard.{Heard}
use Rattle.play.specs.Play.{heard_of, table_after, table_list, chosen, step_of, play_of, play_told}
use Rattle.play.specs.Run.{left_at}
use Rattle.play.specs.inner.Steps.{sought_of}
use Rattle.play.proofs.StreamLaws.{sought_below}
use Rattle.play.proofs.PlayLaws.{step_read, play_step, play_refuses}

-- ---- an accepted packet: what was read, and its stream
pub record Taken (t ws : List ℕ) (d : Done Heard (List ℕ)) : Type 0 where
  pub packet : Packet
  pub stream : ℕ
  pub reads : read_by (chosen t ws) ws ≡ accepted packet
  pub seeks : sought_of packet.parts.kind packet.parts.identifier t ≡ accepted stream
  pub says : heard_of packet stream t ≡ d.says
  pub leaves : table_after packet stream ws t ≡ d.leaves

pub step_taken : (t ws : List ℕ) (d : Done Heard (List ℕ)) → step_of t ws ≡ accepted d → Taken t ws d
step_taken t ws d e =
    let a = onward_passed (read_by (chosen t ws) ws) _ d (sym (step_read t ws) ∙ e) in
    let b = onward_passed (sought_of a.0.parts.kind a.0.parts.identifier t) _ d a.2 in
    let f = accepted_same b.2 in
    record {
      packet = a.0;
      stream = b.0;
      reads = a.1;
      seeks = b.1;
      says = ap (λ (x : Done Heard (List ℕ)). x.says) f;
      leaves = ap (λ (x : Done Heard (List ℕ)). x.leaves) f;
    }

-- ---- what it keeps
module _ (t ws : List ℕ) (w : well_made t ≡ true) (d : Done Heard (List ℕ)) (k : Taken t ws d) where
  abbrev p : Packet
  p = k.packet

  abbrev s : ℕ
  s = k.stream

  abbrev body : List ℕ
  body = part p.place p.length ws

  abbrev new : List ℕ
  new = record_after p.parts.kind p.parts.count body (record_at s t)

  below : s < streams_of t
  below = sought_below p.parts.kind p.parts.identifier t s k.seeks

  has_it : Has s t
  has_it = layout_has t s (well_whole t w) below

  old_length : length (record_at s t) ≡ record_words
  old_length = record_length s t has_it

  fields_fine : p.parts.kind ≡ 4 → context_of body ≡ accepted tt
  fields_fine = body_context (chosen t ws) ws p k.reads

  new_length : length new ≡ record_words
  new_length = after_length p.parts.kind p.parts.count body (record_at s t) old_length fields_fine

  new_identifier : identifier_of new ≡ declared t s
  new_identifier = after_identifier p.parts.kind p.parts.count body (record_at s t) old_length fields_fine ∙ record_identifier s t

  new_choice : choice_of new ≡ choice_of (record_at s t)
  new_choice = after_choice p.parts.kind p.parts.count body (record_at s t) old_length fields_fine

  leaves_is : d.leaves ≡ with_record s new t
  unfolding table_after
  leaves_is = sym k.leaves

  taken_well : well_made d.leaves ≡ true
  taken_well =
      ap well_made leaves_is
      ∙ well_with s new t w below new_length new_identifier
      (after_good p.parts.kind p.parts.count body (record_at s t) old_length fields_fine
      (count_small (chosen t ws) ws p k.reads) (well_record t w s below))

  taken_length : length d.leaves ≡ length t
  taken_length = ap length leaves_is ∙ with_length s new t has_it new_length

  -- the list
  taken_streams : streams_of d.leaves ≡ streams_of t
  taken_streams = ap streams_of leaves_is ∙ streams_with s new t has_it new_length

  taken_list : (u : ℕ) → declared d.leaves u ≡ declared t u
  taken_list u = ap (λ (x : List ℕ). declared x u) leaves_is ∙ list_with s new t w below new_length new_identifier u

  taken_choices : (u : ℕ) → choice_of (record_at u d.leaves) ≡ choice_of (record_at u t)
  taken_choices u =
      ap (λ (x : List ℕ). choice_of (record_at u x)) leaves_is
      ∙ ⊎_elim (λ (e : u ≡ s). rw (e, record_with s new t has_it new_length) new_choice)
      (λ (n : u ≡ s → ⊥). ap choice_of (record_with_other s new t has_it new_length u n)) (same_or_not u s)

  -- the words past the layout
  taken_past : drop (base (streams_of t)) d.leaves ≡ drop (base (streams_of t)) t
  taken_past = ap (drop (base (streams_of t))) leaves_is ∙ past_with s new t has_it new_length (streams_of t) below

-- ---- play, whatever it answers

pub record Kept (t after : List ℕ) : Type 0 where
  pub well : well_made t ≡ true → well_made after ≡ true
  pub whole : length after ≡ length t
  pub streams : streams_of after ≡ streams_of t
  pub list : (u : ℕ) → declared after u ≡ declared t u
  pub choices : (u : ℕ) → choice_of (record_at u after) ≡ choice_of (record_at u t)
  pub past : drop (base (streams_of t)) after ≡ drop (base (streams_of t)) t

pub nothing_changed : (t : List ℕ) → Kept t t
nothing_changed t = record { well = λ w. w; whole = refl; streams = refl; list = λ u. refl; choices = λ u. refl; past = refl }

kept_by : (o : Outcome (Done Heard (List ℕ))) (t ws : List ℕ) → well_made t ≡ true → step_of t ws ≡ o → Kept t (left_of o t)
kept_by (refused n) t ws w e = nothing_changed t
kept_by (accepted d) t ws w e =
    let k = step_taken t ws d e in
    record {
      well = λ _. taken_well t ws w d k;
      whole = taken_length t ws w d k;
      streams = taken_streams t ws w d k;
      list = taken_list t ws w d k;
      choices = taken_choices t ws w d k;
      past = taken_past t ws w d k;
    }

pub step_keeps : (t ws : List ℕ) → well_made t ≡ true → Kept t (left_of (step_of t ws) t)
step_keeps t ws w = kept_by (step_of t ws) t ws w refl

-- a table stays well made, with its length, its list and the words past its layout
play_kept : (t ws : List ℕ) → Kept t (left_of (play_of t ws) t)
play_kept t ws =
    ⊎_elim (λ w. rw (play_step t ws w) (step_keeps t ws w)) (λ w. rw (play_refuses t ws w) (nothing_changed t)) (true_or_false (well_made t))

pub play_keeps : (t ws : List ℕ) → Kept t (left_of (play_told t ws) t)
unfolding play_told
play_keeps t ws = rw (told_left (where_of ws) (play_of t ws) t) (play_kept t ws)

-- of the packet at a place
pub kept_at : (t ws : List ℕ) (at : ℕ) → Kept t (left_at t ws at)
unfolding left_at
kept_at t ws at = play_keeps t (drop at ws)

-- an accepted packet was read and has a stream, and the table was well made
pub play_taken : (t ws : List ℕ) (d : Done Heard (List ℕ)) → play_told t ws ≡ accepted d → (well_made t ≡ true) × Taken t ws d
unfolding play_told play_of
play_taken t ws d told =
    let e = told_accepted (where_of ws) (play_of t ws) d told in
    let w = not-false (well_made t) (first_passed (table_list t) _ d e).0.0 in
    (w, step_taken t ws d (sym (play_step t ws w) ∙ e))
