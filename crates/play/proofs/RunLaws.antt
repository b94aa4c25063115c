-- A run of packets. The idea: after n turns of the run the entries so far, then the walk that is left, are the whole walk (`Running`), and a turn takes one
-- packet of it (`turned`, `stopped`). A run with room for one entry has that of the packet at its place, and EMPTY's where no word is left (`one_entered`).
use Rattle.std.specs.Prelude.{Ok, Err}
use Rattle.words.proofs.Kit.{◌≡◌, refl, sym, ap, subst, ◌∙◌, Bool, true, false, ⊎_elim, List, [], ◌∷◌, ◌++◌, ℕ, zero, suc, ◌+◌, ◌-◌, ◌*◌, ◌/◌, ◌≤◌, ◌<◌}
use Rattle.words.proofs.Kit.{arith, ne_eqb, le-leb, lt-leb, length, take, drop, get_or, set}
use mathlib.Core.List.{append_assoc, append-nil}
use native.Mathlib.Nat.{zero-add, add-zero}
use lib.ListN.{length-append, length-drop}
use lib.Seq.{drop-drop}
use Rattle.words.specs.declared.refusals.Refusal.TheVariants as refusals
use Rattle.words.specs.Numbers.{EMPTY}
use Rattle.words.specs.Tests.{pick}
use Rattle.words.specs.Part.{put}
use Rattle.words.specs.Outcome.{refused, accepted, Meets}
use Rattle.words.specs.Told.{Told}
use Rattle.words.specs.Listed.{on_paper}
use Rattle.words.proofs.Cases.{le_or_lt}
use Rattle.words.proofs.LaidLaws.{sets_all}
use Rattle.words.proofs.PartLaws.{lent, put_at, put_length}
use Rattle.fields.proofs.WalkLaws.{none_left}
use Rattle.packet.specs.Header.{size_of}
use Rattle.packet.specs.Read.{read_by}
use Rattle.packet.specs.Told.{where_of}
use Rattle.table.specs.Layout.{base}
use Rattle.table.specs.Well.{well_made}
use Rattle.play.specs.declared.Heard.{Heard}
use Rattle.play.specs.declared.run.Entry.{Entry}
use Rattle.play.specs.declared.run.Reached.{Reached}
use Rattle.play.specs.Run.{goes_on, said_at, left_at, next_of, entry_words, entry_of, entry_at, words_of_entry}
use Rattle.play.specs.Run.{Walk, ended, before, walk_of, whole_walk, reached_of, answers_of, WalkDone, run_of}
use Rattle.packet.specs.inner.Steps.{Placeable}
use Rattle.play.specs.inner.Entered.{Entered, Noted, unread_entry}
use Rattle.play.proofs.KeepLaws.{Kept, nothing_changed, kept_at}
use Rattle.play.proofs.EntryLaws.{unread, noted_on, noted_placeable, noted_stopped, entered_rest, entered_lent, size_next, size_on}

-- ---- an entry

entry_length : (o : Told Heard) (size : ℕ) → length (entry_of o size) ≡ entry_words
unfolding entry_of
entry_length (refused r) size = refl
entry_length (accepted h) size = refl

pub at_length : (t ws : List ℕ) (at : ℕ) → length (entry_at t ws at) ≡ entry_words
unfolding entry_at
at_length t ws at = entry_length (said_at t ws at) (size_of (get_or ws at 0))

pub entry_stored : (ws : List ℕ) (a b c d e : ℕ) → length ws ≡ entry_words → set (set (set (set (set ws 0 a) 1 b) 2 c) 3 d) 4 e ≡ a ∷ b ∷ c ∷ d ∷ e ∷ []
entry_stored ws a b c d e l = sets_all (a ∷ b ∷ c ∷ d ∷ e ∷ []) ws l

pub entry_put : (at : ℕ) (x : Entry) (last answers : List ℕ) → last ≡ words_of_entry x
    → take at answers ++ (last ++ drop (at + entry_words - at) (drop at answers)) ≡ put at entry_words (words_of_entry x) answers
entry_put at x last answers e = rw e (lent at (at + entry_words) entry_words (words_of_entry x) answers refl)

-- ---- the run

-- n packets with their entries, then the walk that is left
abbrev pub onto : ℕ → List ℕ → Walk → Walk
onto n es w = record { packets = n + w.packets; next = w.next; table = w.table; entries = es ++ w.entries }

pub walk_zero : (ws : List ℕ) (at : ℕ) (t : List ℕ) → walk_of 0 ws at t ≡ ended at t
unfolding walk_of
walk_zero ws at t = refl

pub walk_over : (n : ℕ) (ws : List ℕ) (at : ℕ) (t : List ℕ) → length ws ≤ at → walk_of n ws at t ≡ ended at t
unfolding walk_of
walk_over zero ws at t h = refl
walk_over (suc n) ws at t h = rw (le-leb (length ws) at h)

pub walk_more : (k n : ℕ) (ws : List ℕ) (at : ℕ) (t : List ℕ) → k ≡ suc n → at < length ws
    → walk_of k ws at t
    ≡ before (entry_at t ws at) (pick (goes_on (said_at t ws at)) (walk_of n ws (next_of t ws at) (left_at t ws at))
    (ended (next_of t ws at) (left_at t ws at)))
unfolding walk_of
walk_more k n ws at t e h = rw (e, lt-leb (length ws) at h)

onto_none : (w : Walk) → w ≡ onto 0 [] w
onto_none w = ap (λ (p : ℕ). record { packets = p; next = w.next; table = w.table; entries = w.entries }) (sym (zero-add w.packets))

onto_before : (n : ℕ) (es e : List ℕ) (w : Walk) → onto n es (before e w) ≡ onto (n + 1) (es ++ e) w
onto_before n es e w =
    let i : n + suc w.packets ≡ n + 1 + w.packets = omega arith in
    ap (λ (p : ℕ). record { packets = p; next = w.next; table = w.table; entries = es ++ (e ++ w.entries) }) i
    ∙ ap (λ (l : List ℕ). record { packets = n + 1 + w.packets; next = w.next; table = w.table; entries = l }) (sym (append_assoc es e w.entries))

-- n packets are played and written, and `rest` is left
pub record Running (most : ℕ) (ws : List ℕ) (from : ℕ) (t₀ buffer₀ t buffer : List ℕ) (n : ℕ) (rest : Walk) : Type 0 where
  pub few : n ≤ most
  pub well : well_made t ≡ true
  pub same : length t ≡ length t₀
  pub long : length buffer ≡ length buffer₀
  pub entries : List ℕ
  pub size : length entries ≡ entry_words * n
  pub wrote : buffer ≡ entries ++ drop (entry_words * n) buffer₀
  pub is : walk_of most ws from t₀ ≡ onto n entries rest

pub running_start : (most : ℕ) (ws : List ℕ) (from : ℕ) (t buffer : List ℕ) → well_made t ≡ true
    → Running most ws from t buffer t buffer 0 (walk_of (most - 0) ws from t)
running_start most ws from t buffer w =
    let e : most ≡ most - 0 = omega arith in
    record {
      few = omega arith;
      well = w;
      same = refl;
      long = refl;
      entries = [];
      size = refl;
      wrote = refl;
      is = ap (λ (n : ℕ). walk_of n ws from t) e ∙ onto_none (walk_of (most - 0) ws from t);
    }

module _ {most from at n : ℕ} {ws t₀ buffer₀ t buffer : List ℕ} (p : Running most ws from t₀ buffer₀ t buffer n (walk_of (most - n) ws at t)) where
  -- the words end, or the answers are full
  pub running_over : length ws ≤ at → Running most ws from t₀ buffer₀ t buffer n (ended at t)
  running_over h = rw (walk_over (most - n) ws at t h) at p

  pub running_full : most ≤ n → Running most ws from t₀ buffer₀ t buffer n (ended at t)
  running_full h = let e : most - n ≡ 0 = omega arith in rw (e, walk_zero ws at t) at p

-- nothing is left
pub running_end : {most from at n : ℕ} {ws t₀ buffer₀ t buffer : List ℕ} → Running most ws from t₀ buffer₀ t buffer n (ended at t)
    → most ≡ length buffer₀ / entry_words → WalkDone (whole_walk t₀ ws from buffer₀) buffer₀ (record { packets = n; next = at }) t buffer
unfolding whole_walk
running_end {most} {from} {at} {n} {ws} {t₀} {buffer₀} {t} {buffer} p room =
    let e : walk_of (length buffer₀ / entry_words) ws from t₀ ≡ record { packets = n; next = at; table = t; entries = p.entries } =
    ap (λ (m : ℕ). walk_of m ws from t₀) (sym room) ∙ p.is
    ∙ ap (λ (m : ℕ). record { packets = m; next = at; table = t; entries = p.entries ++ [] }) (add-zero n)
    ∙ ap (λ (l : List ℕ). record { packets = n; next = at; table = t; entries = l }) (append-nil p.entries) in
    record {
      reached = ap reached_of (sym e);
      table = ap (λ (w : Walk). w.table) (sym e);
      answers = p.wrote ∙ ap (λ (m : ℕ). p.entries ++ drop m buffer₀) (sym p.size) ∙ ap (λ (w : Walk). answers_of w buffer₀) (sym e);
    }

-- where the answers are full
pub running_all : {most from at n : ℕ} {ws t₀ buffer₀ t buffer : List ℕ} → Running most ws from t₀ buffer₀ t buffer n (walk_of (most - n) ws at t) → most ≤ n
    → most ≡ length buffer₀ / entry_words → WalkDone (whole_walk t₀ ws from buffer₀) buffer₀ (record { packets = most; next = at }) t buffer
running_all {most} {from} {at} {n} {ws} {t₀} {buffer₀} {t} {buffer} p h room =
    let e : n ≡ most = omega (arith, p.few) in
    let P : ℕ → Type 0 = λ m. WalkDone (whole_walk t₀ ws from buffer₀) buffer₀ (record { packets = m; next = at }) t buffer in
    subst P e (running_end (running_full p h) room)

-- ---- a turn of the run, from what its calls ensure

module _ (most from at n : ℕ) (ws t₀ buffer₀ t buffer : List ℕ) (p : Running most ws from t₀ buffer₀ t buffer n (walk_of (most - n) ws at t)) where
  -- the answers stay as long
  pub written_long : n < most → most ≡ length buffer₀ / entry_words → (x : Entry) (written : List ℕ)
      → written ≡ put (entry_words * n) entry_words (words_of_entry x) buffer → length written ≡ length buffer₀
  written_long less room x written w =
      ap length w ∙ put_length (entry_words * n) entry_words (words_of_entry x) buffer (omega (arith, p.long)) refl ∙ p.long

  module _ (less : n < most) (room : most ≡ length buffer₀ / entry_words) (there : at < length ws) (x : Entry) (left written : List ℕ)
      (entered : Entered t ws at x left) (w : written ≡ put (entry_words * n) entry_words (words_of_entry x) buffer) where
    kept : Kept t left
    kept = rw entered.table (kept_at t ws at)

    abbrev more : Walk
    more = pick (goes_on (said_at t ws at)) (walk_of (most - (n + 1)) ws (next_of t ws at) (left_at t ws at)) (ended (next_of t ws at) (left_at t ws at))

    turn : Running most ws from t₀ buffer₀ left written (n + 1) more
    turn =
        let many : entry_words * n + entry_words ≡ entry_words * (n + 1) = omega arith in
        let k : most - n ≡ suc (most - (n + 1)) = omega arith in
        record {
          few = omega arith;
          well = kept.well p.well;
          same = kept.whole ∙ p.same;
          long = written_long less room x written w;
          entries = p.entries ++ words_of_entry x;
          size = length-append p.entries (words_of_entry x) ∙ omega (arith, p.size);
          wrote =
              w ∙ ap (put (entry_words * n) entry_words (words_of_entry x)) p.wrote
              ∙ put_at (entry_words * n) entry_words p.entries (drop (entry_words * n) buffer₀) (words_of_entry x) p.size
              ∙ ap (λ (l : List ℕ). p.entries ++ (words_of_entry x ++ l))
              (drop-drop entry_words (entry_words * n) buffer₀ ∙ ap (λ (m : ℕ). drop m buffer₀) many)
              ∙ sym (append_assoc p.entries (words_of_entry x) (drop (entry_words * (n + 1)) buffer₀));
          is =
              p.is ∙ ap (onto n p.entries) (walk_more (most - n) (most - (n + 1)) ws at t k there)
              ∙ onto_before n p.entries (entry_at t ws at) more
              ∙ ap (λ (l : List ℕ). onto (n + 1) (p.entries ++ l) more) (sym entered.entry);
        }

    -- the walk goes on, or stops behind the packet
    turn_on : (x.size ≡ 0 → ⊥) → Running most ws from t₀ buffer₀ left written (n + 1) (walk_of (most - (n + 1)) ws (at + x.size) left)
    turn_on z =
        let g : goes_on (said_at t ws at) ≡ true = sym (size_on p.well entered) ∙ rw (ne_eqb x.size 0 z) in
        rw (size_next p.well entered, entered.table) (rw (entered.table, g) at turn)

    turn_stops : x.size ≡ 0 → Running most ws from t₀ buffer₀ left written (n + 1) (ended at left)
    turn_stops z =
        let g : goes_on (said_at t ws at) ≡ false = sym (size_on p.well entered) ∙ rw z in
        let here : next_of t ws at ≡ at = sym (size_next p.well entered) ∙ ap (λ (m : ℕ). at + m) z ∙ add-zero at in
        rw entered.table (rw (entered.table, g, here) at turn)

  -- by what is noted of the packet, which is its entry where the walk goes on; where it stops, the entry has the place too
  module _ (x : Entry) (left : List ℕ) (y : Noted t (take (length ws - at) (drop at ws)) x left) where
    abbrev lent_words : List ℕ
    lent_words = take (length ws - at) (drop at ws)

    pub stopped_placeable : x.size ≡ 0 → Placeable x.number (take (length ws - at) (drop at ws))
    stopped_placeable z = noted_placeable t lent_words left x p.well y z

    module _ (less : n < most) (room : most ≡ length buffer₀ / entry_words) (there : at < length ws) (written : List ℕ) where
      pub turned : (x.size ≡ 0 → ⊥) → written ≡ put (entry_words * n) entry_words (words_of_entry x) buffer
          → Running most ws from t₀ buffer₀ left written (n + 1) (walk_of (most - (n + 1)) ws (at + x.size) left)
      turned z w = turn_on less room there x left written (entered_lent (noted_on t lent_words left x p.well y z)) w z

      module _ (z : x.size ≡ 0) (r : Entry) (e : r ≡ unread_entry x.number (take (length ws - at) (drop at ws)))
          (w : written ≡ put (entry_words * n) entry_words (words_of_entry r) buffer) where
        stopped : Running most ws from t₀ buffer₀ left written (n + 1) (ended at left)
        stopped = turn_stops less room there r left written (entered_lent (noted_stopped t lent_words left x p.well y z r e)) w (rw e)

        pub stopped_same : length left ≡ length t₀
        stopped_same = stopped.same

        pub stopped_done : WalkDone (whole_walk t₀ ws from buffer₀) buffer₀ (record { packets = n + 1; next = at }) left written
        stopped_done = running_end stopped room

-- ---- a run with room for one entry

-- EMPTY's
abbrev blank : List ℕ
blank = EMPTY ∷ 0 ∷ 0 ∷ 0 ∷ 0 ∷ []

module _ (t ws : List ℕ) (at : ℕ) where
  one_ended : (g : Bool) (next : ℕ) (left : List ℕ) → pick g (walk_of 0 ws next left) (ended next left) ≡ ended next left
  one_ended true next left = walk_zero ws next left
  one_ended false next left = refl

  walk_one : at < length ws → walk_of 1 ws at t ≡ before (entry_at t ws at) (ended (next_of t ws at) (left_at t ws at))
  walk_one h = walk_more 1 0 ws at t refl h ∙ ap (before (entry_at t ws at)) (one_ended (goes_on (said_at t ws at)) (next_of t ws at) (left_at t ws at))

  module _ (x : Entry) (r : Reached) (left : List ℕ) (w : well_made t ≡ true) where
    one_over : length ws ≤ at → WalkDone (whole_walk t ws at blank) blank r left (words_of_entry x) → Entered t ws at x left
    unfolding whole_walk read_by where_of
    one_over h d =
        let o = walk_over 1 ws at t h in
        let e : drop at ws ≡ [] = none_left (drop at ws) (omega (arith, length-drop at ws)) in
        let y : Entered t ws at (record { number = EMPTY; size = 0; what = 0; which = 0; missing = 0 }) t =
        entered_rest (rw e (unread t [] w EMPTY refl)) in
        record { entry = d.answers ∙ rw o y.entry; table = d.table ∙ rw o y.table }

    one_more : at < length ws → WalkDone (whole_walk t ws at blank) blank r left (words_of_entry x) → Entered t ws at x left
    unfolding whole_walk
    one_more h d =
        let o = walk_one h in
        record { entry = d.answers ∙ rw (o, append-nil (entry_at t ws at), at_length t ws at) (append-nil (entry_at t ws at)); table = d.table ∙ rw o }

    pub one_entered : (empty : ℕ) (written : List ℕ) → empty ≡ EMPTY
        → WalkDone (whole_walk t ws at (empty ∷ 0 ∷ 0 ∷ 0 ∷ 0 ∷ [])) (empty ∷ 0 ∷ 0 ∷ 0 ∷ 0 ∷ []) r left written → words_of_entry x ≡ written
        → Entered t ws at x left
    one_entered empty written f d e = let d' = rw (f, ← e) at d in ⊎_elim (λ h. one_over h d') (λ h. one_more h d') (le_or_lt (length ws) at)

-- ---- the answers of a run, by whether the table is well made

module _ (t ws : List ℕ) (from : ℕ) (answers : List ℕ) where
  pub run_unmade : well_made t ≡ false → Meets on_paper (run_of t ws from answers) (t, answers) (Err refusals.Table) (t, answers)
  unfolding run_of
  run_unmade e = record { answer = rw e; buffer = rw e }

  pub run_made : (r : Reached) (left written : List ℕ) → well_made t ≡ true → WalkDone (whole_walk t ws from answers) answers r left written
      → Meets on_paper (run_of t ws from answers) (t, answers) (Ok r) (left, written)
  unfolding run_of
  run_made r left written w d = record { answer = rw (w, d.reached); buffer = rw (w, d.table, d.answers) }

-- ---- what a run keeps

kept_then : {a b c : List ℕ} → Kept a b → Kept b c → Kept a c
kept_then {a} {b} {c} p q = record {
  well = λ w. q.well (p.well w);
  whole = q.whole ∙ p.whole;
  streams = q.streams ∙ p.streams;
  list = λ u. q.list u ∙ p.list u;
  choices = λ u. q.choices u ∙ p.choices u;
  past = ap (λ (n : ℕ). drop (base n) c) (sym p.streams) ∙ q.past ∙ ap (λ (n : ℕ). drop (base n) b) p.streams ∙ p.past;
}

-- a table stays well made, with its length, its list and the words past its layout
pub walk_keeps : (n : ℕ) (ws : List ℕ) (at : ℕ) (t : List ℕ) → Kept t (walk_of n ws at t).table
unfolding walk_of
walk_keeps zero ws at t = nothing_changed t
walk_keeps (suc n) ws at t =
    ⊎_elim (λ (h : length ws ≤ at). rw (le-leb (length ws) at h) (nothing_changed t))
    (λ (h : at < length ws). rw (lt-leb (length ws) at h) (on_kept (goes_on (said_at t ws at)) (walk_keeps n ws (next_of t ws at) (left_at t ws at))))
    (le_or_lt (length ws) at)
  where
    on_kept : (g : Bool) → Kept (left_at t ws at) (walk_of n ws (next_of t ws at) (left_at t ws at)).table
        → Kept t (pick g (walk_of n ws (next_of t ws at) (left_at t ws at)) (ended (next_of t ws at) (left_at t ws at))).table
    on_kept true k = kept_then (kept_at t ws at) k
    on_kept false k = kept_at t ws at
