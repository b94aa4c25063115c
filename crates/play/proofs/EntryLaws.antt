-- The entry of one packet. The idea: what is refused or heard of a packet, as an entry's numbers, is `entry_of` of what play says; and it says no less, since a
-- refusal has a number (`read_listed`), and a walk goes on behind a packet that was read, which has a word (`Whole`, `step_whole`).
use Rattle.std.specs.Prelude.{Result, Err, Option, Some, None}
use Rattle.words.proofs.Kit.{◌≡◌, refl, sym, ap, subst, ◌∙◌, Bool, true, false, not, ⊎_elim, List, ℕ, ◌+◌, ◌-◌, ◌^◌, ◌<◌, arith, rules, eq-eqb, ne_eqb}
use Rattle.words.proofs.Kit.{eqb-true, eqb, length, take, drop, get_or}
use native.Mathlib.Nat.{mod-lt}
use Rattle.words.specs.declared.refusals.Refusal.TheVariants as refusals
use Rattle.words.specs.declared.RefusedAt.{RefusedAt}
use Rattle.words.specs.declared.Where.{Where}
use Rattle.words.specs.declared.Where.TheVariants.{Nowhere, Word}
use Rattle.words.specs.Numbers.{STREAM}
use Rattle.words.specs.Tests.{pick, when}
use Rattle.words.specs.Outcome.{Outcome, refused, accepted, onward, Done, said_of, left_of, Meets}
use Rattle.words.specs.Listed.{IsListed}
use Rattle.words.specs.Told.{Told, told, told_paper, refusal, place_word, place_bit}
use Rattle.words.proofs.ListedLaws.{listed_some}
use Rattle.words.proofs.Cases.{true_or_false, same_or_not}
use Rattle.words.proofs.ToldLaws.{told_said}
use Rattle.fields.proofs.PlaceLaws.{rest_whole, first_word}
use Rattle.packet.specs.declared.Packet.{Packet}
use Rattle.packet.specs.Header.{type_of, size_of}
use Rattle.packet.specs.Parts.{parts_of, packet_of}
use Rattle.packet.specs.Read.{list_by, read_by}
use Rattle.packet.specs.Told.{where_of}
use Rattle.packet.specs.inner.Steps.{Placeable}
use Rattle.packet.proofs.ReadLaws.{size_some, size_said, read_number, read_listed}
use Rattle.packet.proofs.InsideLaws.{PlaceTold, placeable, place_told, stream_told, stream_place, table_place}
use Rattle.table.specs.Well.{well_made}
use Rattle.play.specs.declared.Heard.{Heard}
use Rattle.play.specs.declared.run.Entry.{Entry}
use Rattle.play.specs.declared.step.Happened.{Happened}
use Rattle.play.specs.Play.{heard_of, table_after, chosen, step_of, play_of, play_told}
use Rattle.play.specs.inner.Steps.{sought_of}
use Rattle.play.specs.Run.{goes_on, said_at, left_at, next_of, Stepped, entry_of, entry_at, words_of_entry}
use Rattle.play.specs.inner.Entered.{Headed, sought_in, HeardAs, Entered, noted_of, Noted, Sayable, said_by, unread_note, unread_entry, undeclared_entry}
use Rattle.play.proofs.StreamLaws.{sought_number}
use Rattle.play.proofs.PlayLaws.{step_read, play_step, step_unheard}

-- ---- what is said of a packet of a size: a refusal has a number and a place, and where a walk goes on the packet has a word

abbrev Whole : Told Heard → ℕ → Type 0
Whole (refused r) size = IsListed r.number × (r.number ≡ STREAM → 0 < size) × PlaceTold r.number r.place
Whole (accepted h) size = (h.size ≡ size) × (0 < size)

module _ (t ws : List ℕ) where
  abbrev choice : Bool
  choice = chosen t ws

  abbrev done : Packet → ℕ → Outcome (Done Heard (List ℕ))
  done p s = accepted (record { says = heard_of p s t; leaves = table_after p s ws t })

  whole_sought : (p : Packet) → read_by choice ws ≡ accepted p → (o : Outcome ℕ) → sought_of p.parts.kind p.parts.identifier t ≡ o
      → Whole (told (where_of ws) (said_of (onward o (done p)))) (size_of (get_or ws 0 0))
  unfolding heard_of
  whole_sought p e (refused n) f =
      let i : n ≡ STREAM = sought_number p.parts.kind p.parts.identifier t n f in
      ((refusals.Stream, sym i), (λ _. omega (arith, size_some choice ws p e, size_said choice ws p e)), rw i (stream_told ws))
  whole_sought p e (accepted s) f = (size_said choice ws p e, omega (arith, size_some choice ws p e, size_said choice ws p e))

  whole_read : (o : Outcome Packet) → read_by choice ws ≡ o
      → Whole (told (where_of ws) (said_of (onward o (λ p. onward (sought_of p.parts.kind p.parts.identifier t) (done p))))) (size_of (get_or ws 0 0))
  whole_read (refused n) e = (read_listed choice ws n e, (λ i. absurd (read_number choice ws n e i)), place_told ws choice n e)
  whole_read (accepted p) e = whole_sought p e (sought_of p.parts.kind p.parts.identifier t) refl

  step_whole : Whole (told (where_of ws) (said_of (step_of t ws))) (size_of (get_or ws 0 0))
  step_whole = rw step_read (whole_read (read_by choice ws) refl)

said_whole : (t ws : List ℕ) (at : ℕ) → well_made t ≡ true → Whole (said_at t ws at) (size_of (get_or ws at 0))
unfolding said_at play_told
said_whole t ws at w =
    rw (told_said (where_of (drop at ws)) (play_of t (drop at ws)), play_step t (drop at ws) w, ← first_word at ws) (step_whole t (drop at ws))

-- ---- an entry, by what is said

module _ (size : ℕ) (x : Entry) where
  entry_size : (o : Told Heard) → words_of_entry x ≡ entry_of o size → x.size ≡ when (goes_on o) size
  unfolding entry_of
  entry_size (refused n) e = cc
  entry_size (accepted h) e = cc

  entry_said : (o : Told Heard) → Whole o size → words_of_entry x ≡ entry_of o size → said_by x ≡ o
  unfolding entry_of
  entry_said (refused r) h e =
      let i : x.number ≡ r.number = cc in
      let a : x.what ≡ place_word r.place = cc in
      let b : x.which ≡ place_bit r.place = cc in
      rw (i, a, b, ne_eqb r.number 0 (λ z. omega (arith, listed_some r.number h.0))) (ap (λ (p : Where). refused (refusal r.number p)) (sym h.2))
  entry_said (accepted a) h e =
      let i : x.number ≡ 0 = cc in
      let z : x.size ≡ a.size = cc in
      let k : x.what ≡ a.kind = cc in
      let s : x.which ≡ a.stream = cc in
      let m : x.missing ≡ a.missing = cc in
      rw (i, z, k, s, m)

  entry_on : (o : Told Heard) → Whole o size → words_of_entry x ≡ entry_of o size → not (eqb x.size 0) ≡ goes_on o
  entry_on (refused r) h e =
      let z = entry_size (refused r) e in
      let n : ℕ = r.number in
      ⊎_elim (λ i. rw (z, eq-eqb n STREAM i, ne_eqb size 0 (λ j. omega (arith, h.1 i)))) (λ i. rw (z, ne_eqb n STREAM i)) (same_or_not n STREAM)
  entry_on (accepted a) h e = rw (entry_size (accepted a) e, ne_eqb size 0 (λ j. omega arith))

-- its number is 0, or one of the list
module _ (size : ℕ) (x : Entry) where
  entry_sayable : (o : Told Heard) → Whole o size → words_of_entry x ≡ entry_of o size → Sayable x.number
  unfolding entry_of
  entry_sayable (refused r) h e = λ _. let i : x.number ≡ r.number = cc in (h.0.0, h.0.1 ∙ sym i)
  entry_sayable (accepted a) h e = λ n. let i : x.number ≡ 0 = cc in absurd (n i)

-- ---- the entry of the packet at the front, on a table that is well made

module _ (t ws : List ℕ) (w : well_made t ≡ true) where
  -- what is noted
  noted_unread_by : (n : ℕ) → read_by (chosen t ws) ws ≡ refused n → Noted t ws (unread_note n) t
  unfolding said_at left_at play_told
  noted_unread_by n e = record {
    note = rw (play_step t ws w, step_read, e, ne_eqb n STREAM (read_number (chosen t ws) ws n e));
    table = rw (play_step t ws w, step_read, e);
  }

  entered_refused : (n size : ℕ) → step_of t ws ≡ refused n → size ≡ when (eqb n STREAM) (size_of (get_or ws 0 0))
      → Entered t ws 0 (record { number = n; size = size; what = place_word (where_of ws n); which = place_bit (where_of ws n); missing = 0 }) t
  unfolding entry_at said_at left_at entry_of play_told
  entered_refused n size e i = record { entry = rw (play_step t ws w, e, i); table = rw (play_step t ws w, e) }

  pub unread : (n : ℕ) → read_by (chosen t ws) ws ≡ refused n → Entered t ws 0 (unread_entry n ws) t
  unread n e = entered_refused n 0 (rw (step_read, e)) (rw (ne_eqb n STREAM (read_number (chosen t ws) ws n e)))

  -- of a packet that a check refused
  pub noted_unread : (n : ℕ) (r : Entry) → read_by (chosen t ws) ws ≡ refused n → r ≡ unread_note n → Noted t ws r t
  noted_unread n r e i = rw i (noted_unread_by n e)

  -- of one that was read, with the header h: of no stream, and heard
  module _ (h : ℕ) (p : Headed h ws t) where
    pub noted_undeclared : (r : Entry) → refused STREAM ≡ sought_in h ws t → r ≡ undeclared_entry STREAM h → Noted t ws r t
    unfolding said_at left_at play_told
    noted_undeclared r g i = record {
      note = rw (i, play_step t ws w, step_read, p.reads, ← g, stream_place ws, p.header);
      table = rw (play_step t ws w, step_read, p.reads, ← g);
    }

    pub noted_heard : (s more : ℕ) (r : Entry) (left : List ℕ) → accepted s ≡ sought_in h ws t → HeardAs h s ws t more left
        → r ≡ record { number = 0; size = size_of h; what = type_of h; which = s; missing = more } → Noted t ws r left
    unfolding said_at left_at heard_of packet_of parts_of play_told
    noted_heard s more r left f a i = record {
      note = rw (i, play_step t ws w, step_read, p.reads, ← f, a.adds, p.header);
      table = rw (play_step t ws w, step_read, p.reads, ← f) a.leaves;
    }

-- ---- the entry, by what was noted

note_size : (x : Entry) (o : Told Heard) (size : ℕ) → words_of_entry x ≡ noted_of o size → x.size ≡ when (goes_on o) size
note_size x (refused r) size e = cc
note_size x (accepted h) size e = cc

-- a walk that goes on has noted all: STREAM is told at a word, and so has no bit
note_entry : (x : Entry) (o : Told Heard) (size : ℕ) → Whole o size → words_of_entry x ≡ noted_of o size → goes_on o ≡ true → words_of_entry x ≡ entry_of o size
unfolding entry_of
note_entry x (refused r) size h e g =
    let i : r.number ≡ STREAM = eqb-true r.number STREAM g in
    let place : r.place ≡ Word (place_word r.place) = rw i at h.2 in
    let none : place_bit r.place ≡ 0 = ap place_bit place in
    e ∙ rw (g, none)
note_entry x (accepted a) size h e g = e

module _ (t ws left : List ℕ) (x : Entry) (w : well_made t ≡ true) (y : Noted t ws x left) where
  pub noted_on : (x.size ≡ 0 → ⊥) → Entered t ws 0 x left
  unfolding entry_at
  noted_on n =
      let o = said_at t ws 0 in
      let size = size_of (get_or ws 0 0) in
      let goes : goes_on o ≡ true =
      ⊎_elim (λ (g : goes_on o ≡ true). g) (λ (g : goes_on o ≡ false). absurd (n (note_size x o size y.note ∙ rw g))) (true_or_false (goes_on o)) in
      record { entry = note_entry x o size (said_whole t ws 0 w) y.note goes; table = y.table }

  -- where it stops, reading has refused the words
  noted_refused : x.size ≡ 0 → (n : ℕ) × (read_by (chosen t ws) ws ≡ refused n) × (x.number ≡ n) × (left ≡ t)
  unfolding said_at left_at play_told
  noted_refused z = stopped_by (play_of t ws) y.note y.table (said_whole t ws 0 w) refl
    where
      stopped_by : (o : Outcome (Done Heard (List ℕ))) → words_of_entry x ≡ noted_of (said_of (told (where_of ws) o)) (size_of (get_or ws 0 0))
          → left ≡ left_of (told (where_of ws) o) t → Whole (said_of (told (where_of ws) o)) (size_of (get_or ws 0 0)) → play_of t ws ≡ o
          → (n : ℕ) × (read_by (chosen t ws) ws ≡ refused n) × (x.number ≡ n) × (left ≡ t)
      stopped_by (refused n) e l h p =
          let read : read_by (chosen t ws) ws ≡ refused n =
          ⊎_elim (λ (r : read_by (chosen t ws) ws ≡ refused n). r)
          (λ s.
          let long : x.size ≡ size_of (get_or ws 0 0) =
          note_size x (refused (refusal n (where_of ws n))) (size_of (get_or ws 0 0)) e
          ∙ ap (λ (k : ℕ). when (eqb k STREAM) (size_of (get_or ws 0 0))) s.0 in
          absurd (omega (arith, h.1 s.0, z, long)))
          (step_unheard t ws n w p) in
          (n, read, cc, l)
      stopped_by (accepted d) e l h p =
          absurd (omega (arith, h.1, z, note_size x (accepted d.says) (size_of (get_or ws 0 0)) e))

  module _ (z : x.size ≡ 0) where
    pub noted_placeable : Placeable x.number ws
    noted_placeable = let k = noted_refused z in rw k.2 (placeable ws (chosen t ws) k.0 k.1)

    pub noted_stopped : (r : Entry) → r ≡ unread_entry x.number ws → Entered t ws 0 r left
    noted_stopped r e =
        let k = noted_refused z in
        let here : Entered t ws 0 r t = rw (e, k.2) (unread t ws w k.0 k.1) in
        subst (Entered t ws 0 r) (sym k.3) here

-- ---- the entry of the packet at a place

module _ {t ws left : List ℕ} {at : ℕ} {x : Entry} where
  -- it is that of the words from there on, and so of those that are lent
  pub entered_rest : Entered t (drop at ws) 0 x left → Entered t ws at x left
  unfolding entry_at said_at left_at
  entered_rest y = record { entry = rw (first_word at ws) at y.entry; table = y.table }

  pub entered_lent : Entered t (take (length ws - at) (drop at ws)) 0 x left → Entered t ws at x left
  entered_lent y = entered_rest (rw (rest_whole at ws) at y)

-- its size has sixteen bits, noted or entered
some_small : (b : Bool) (w : ℕ) → when b (size_of w) < 2 ^ 16
some_small true w = mod-lt w (omega arith)
some_small false w = omega arith

pub noted_small : {t ws left : List ℕ} {x : Entry} → Noted t ws x left → x.size < 2 ^ 16
noted_small {t} {ws} {left} {x} y =
    rw (note_size x (said_at t ws 0) (size_of (get_or ws 0 0)) y.note) (some_small (goes_on (said_at t ws 0)) (get_or ws 0 0))

pub unread_small : (n : ℕ) (ws : List ℕ) (x : Entry) → x ≡ unread_entry n ws → x.size < 2 ^ 16
unread_small n ws x e = rw e (omega arith)

pub entered_small : {t ws left : List ℕ} {at : ℕ} {x : Entry} → Entered t ws at x left → x.size < 2 ^ 16
unfolding entry_at
entered_small {t} {ws} {left} {at} {x} y =
    rw (entry_size (size_of (get_or ws at 0)) x (said_at t ws at) y.entry) (some_small (goes_on (said_at t ws at)) (get_or ws at 0))

module _ {t ws left : List ℕ} {at : ℕ} {x : Entry} (w : well_made t ≡ true) (y : Entered t ws at x left) where
  said_by_lem : said_by x ≡ said_at t ws at
  unfolding entry_at
  said_by_lem = entry_said (size_of (get_or ws at 0)) x (said_at t ws at) (said_whole t ws at w) y.entry

  pub size_next : at + x.size ≡ next_of t ws at
  unfolding entry_at next_of
  size_next = ap (λ (n : ℕ). at + n) (entry_size (size_of (get_or ws at 0)) x (said_at t ws at) y.entry)

  pub size_on : not (eqb x.size 0) ≡ goes_on (said_at t ws at)
  unfolding entry_at
  size_on = entry_on (size_of (get_or ws at 0)) x (said_at t ws at) (said_whole t ws at w) y.entry

  pub entered_sayable : Sayable x.number
  unfolding entry_at
  entered_sayable = entry_sayable (size_of (get_or ws at 0)) x (said_at t ws at) (said_whole t ws at w) y.entry

-- ---- what play answers, by whether the table is well made, and what a step of a walk gives

module _ (t ws : List ℕ) where
  pub play_unmade : well_made t ≡ false → Meets told_paper (play_told t ws) t (Err (record { refusal = refusals.Table; place = Nowhere })) t
  unfolding play_told play_of
  play_unmade e = record { answer = rw (e, table_place ws); buffer = rw e }

  pub play_made : (x : Entry) (r : Result Heard RefusedAt) (left : List ℕ) → well_made t ≡ true → Entered t ws 0 x left → told_paper r ≡ said_by x
      → Meets told_paper (play_told t ws) t r left
  unfolding said_at left_at
  play_made x r left w y i = record { answer = i ∙ said_by_lem w y; buffer = y.table }

module _ (t ws left : List ℕ) (at : ℕ) (x : Entry) (answer : Result Heard RefusedAt) (w : well_made t ≡ true) (y : Entered t ws at x left)
    (i : told_paper answer ≡ said_by x) where
  pub stepped_on : (x.size ≡ 0 → ⊥) → Stepped t ws at (record { answer = answer; next = Some (at + x.size) }) left
  stepped_on z = record {
    answer = i ∙ said_by_lem w y;
    next = rw (← size_on w y, ne_eqb x.size 0 z, size_next w y);
    table = y.table;
  }

  pub stepped_last : x.size ≡ 0 → Stepped t ws at (record { answer = answer; next = None }) left
  stepped_last z = record { answer = i ∙ said_by_lem w y; next = rw (← size_on w y, z); table = y.table }

-- what a step's next place tells: whether the walk goes on
some_picked : (b : Bool) (n m : ℕ) → ◌≡◌ {A = Option ℕ} (Some n) (pick b (Some m) None) → (b ≡ true) × (n ≡ m)
some_picked true n m e = (refl, cc)
some_picked false n m e = let z : ◌≡◌ {A = ℕ} 0 1 = cc in absurd (omega arith)

none_picked : (b : Bool) (m : ℕ) → ◌≡◌ {A = Option ℕ} None (pick b (Some m) None) → b ≡ false
none_picked true m e = let z : ◌≡◌ {A = ℕ} 0 1 = cc in absurd (omega arith)
none_picked false m e = refl

module _ {t ws left : List ℕ} {at : ℕ} {s : Happened} (k : Stepped t ws at s left) where
  pub step_goes : (n : ℕ) → s.next ≡ Some n → (goes_on (said_at t ws at) ≡ true) × (n ≡ next_of t ws at)
  step_goes n e = some_picked (goes_on (said_at t ws at)) n (next_of t ws at) (sym e ∙ k.next)

  pub step_stops : s.next ≡ None → goes_on (said_at t ws at) ≡ false
  step_stops e = none_picked (goes_on (said_at t ws at)) (next_of t ws at) (sym e ∙ k.next)
