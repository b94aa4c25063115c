-- Words past a table's layout. The idea: what each call looks at is that of the layout alone (`streams_alone`, `record_alone`, `play_alone`, `page_alone`, in
-- the crates below), and a call that is asked of a stream looks at its record.
use Rattle.words.proofs.Kit.{◌≡◌, refl, ap, Bool, true, false, List, ◌++◌, ℕ, ◌/◌, not, leb, length, drop}
use borrow.Author.Tests.{leb-false}
use Rattle.words.specs.Numbers.{TABLE}
use Rattle.words.specs.Tests.{pick}
use Rattle.words.specs.Outcome.{Outcome, refused, accepted, Done, said_of, left_of}
use Rattle.words.specs.Refusals.{first_given}
use Rattle.words.proofs.RefusalLaws.{either_passed, first_same}
use Rattle.record.specs.Layout.{held_words_in}
use Rattle.table.specs.Layout.{streams_of, record_at}
use Rattle.table.specs.Well.{well_made}
use Rattle.table.specs.Stream.{stream_number_list}
use Rattle.table.proofs.AloneLaws.{streams_alone, record_alone, well_alone}
use Rattle.play.specs.declared.run.Reached.{Reached}
use Rattle.play.specs.Run.{entry_words, whole_walk, run_of}
use Rattle.play.proofs.AloneLaws.{play_alone, walk_alone}
use Rattle.page.specs.Save.{length_of, save_of}
use Rattle.page.proofs.AloneLaws.{page_alone, length_alone}
use Rattle.index.specs.Layout.{with_entry}
use Rattle.index.specs.Start.{started_index, start_index_of}
use Rattle.index_grow.proofs.CopyLaws.{grow_past}
use Rattle.panel.specs.AllReadings.{record_readings, readings_of}
use Rattle.panel.specs.HeldWords.{copy_list, held_words_of}
use Rattle.panel.specs.Readings.{record_shows, reading_list, reading_of}
use Rattle.panel_streams.specs.Identity.{declared_in, identity_of}
use Rattle.panel_streams.specs.TypeCounts.{type_list, type_count_in, type_counts_of}
use Rattle.panel_streams.specs.OwnTable.{own_done, own_list, own_table_of}
use Rattle.panel_streams.specs.Changed.{changed_in, changed_list, changed_of}
use Rattle.demands.specs.Program.{ours}
use Rattle.demands.specs.PastUnread.{IsLayout, PastUnread}

-- ---- the panel

module _ (l x : List ℕ) (e : IsLayout l) where
  -- the record of a stream that a table has
  shows_alone : (stream : ℕ) → leb (streams_of l) stream ≡ false → record_at stream (l ++ x) ≡ record_at stream l
  shows_alone stream h = record_alone l x e stream (leb-false (streams_of l) stream h)

  reading_alone : (stream bit : ℕ) → reading_of (l ++ x) stream bit ≡ reading_of l stream bit
  unfolding reading_of
  reading_alone stream bit =
      rw (well_alone l x e, streams_alone l x e)
      (first_same (reading_list l stream bit) _ _ (λ k. ap (λ (r : List ℕ). accepted (record_shows bit r)) (shows_alone stream k.1.0)))

  readings_alone : (stream : ℕ) → readings_of (l ++ x) stream ≡ readings_of l stream
  unfolding readings_of
  readings_alone stream =
      rw (well_alone l x e, streams_alone l x e)
      (first_same (stream_number_list l stream) _ _ (λ k. ap (λ (r : List ℕ). accepted (record_readings r)) (shows_alone stream k.1.0)))

  held_alone : (stream bit : ℕ) (out : List ℕ) → held_words_of (l ++ x) stream bit out ≡ held_words_of l stream bit out
  unfolding held_words_of
  held_alone stream bit out =
      rw (well_alone l x e, streams_alone l x e)
      (first_same (reading_list l stream bit) _ _
      (λ k.
      ap (λ (r : List ℕ). first_given (copy_list (held_words_in bit r) out)
      (accepted (record { says = length (held_words_in bit r); leaves = held_words_in bit r ++ drop (length (held_words_in bit r)) out })))
      (shows_alone stream k.1.0)))

  -- ---- what a table says of a stream

  -- whatever is asked of a stream's record
  asked_alone : {A : Type 0} (stream : ℕ) (f : List ℕ → Outcome A)
      → first_given (stream_number_list (l ++ x) stream) (f (record_at stream (l ++ x))) ≡ first_given (stream_number_list l stream) (f (record_at stream l))
  asked_alone stream f = rw (well_alone l x e, streams_alone l x e) (first_same (stream_number_list l stream) _ _ (λ k. ap f (shows_alone stream k.1.0)))

  identity_alone : (stream : ℕ) → identity_of (l ++ x) stream ≡ identity_of l stream
  unfolding identity_of
  identity_alone stream = asked_alone stream (λ r. accepted (declared_in r))

  counts_alone : (stream kind : ℕ) → type_counts_of (l ++ x) stream kind ≡ type_counts_of l stream kind
  unfolding type_counts_of
  counts_alone stream kind = asked_alone stream (λ r. first_given (type_list kind) (accepted (type_count_in kind r)))

  own_alone : (stream : ℕ) (out : List ℕ) → own_table_of (l ++ x) stream out ≡ own_table_of l stream out
  unfolding own_table_of
  own_alone stream out = asked_alone stream (λ r. first_given (own_list out) (accepted (own_done r out)))

  before_alone : (stream : ℕ) (u : List ℕ) (other : ℕ) → changed_of (l ++ x) stream u other ≡ changed_of l stream u other
  unfolding changed_of
  before_alone stream u other =
      rw (well_alone l x e, streams_alone l x e)
      (first_same (changed_list l stream u other) _ _
      (λ k.
      ap (λ (r : List ℕ). accepted (changed_in r (record_at other u)))
      (shows_alone stream (either_passed (leb (streams_of l) stream) (leb (streams_of u) other) k.1.0).0)))

  after_alone : (t : List ℕ) (stream other : ℕ) → changed_of t stream (l ++ x) other ≡ changed_of t stream l other
  unfolding changed_of
  after_alone t stream other =
      rw (well_alone l x e, streams_alone l x e)
      (first_same (changed_list t stream l other) _ _
      (λ k.
      ap (λ (r : List ℕ). accepted (changed_in (record_at stream t) r))
      (shows_alone other (either_passed (leb (streams_of t) stream) (leb (streams_of l) other) k.1.0).1)))

-- ---- every call

-- what a call says and leaves of a table that is not well made, or of its walk
run_alike : (t : Bool) (n : ℕ) (l x answers : List ℕ) (d c : Done Reached (List ℕ × List ℕ)) → d.says ≡ c.says → d.leaves.0 ≡ c.leaves.0 ++ x
    → d.leaves.1 ≡ c.leaves.1
    → let o = pick t (refused n) (accepted d) in
    let p = pick t (refused n) (accepted c) in
    (said_of o ≡ said_of p) × ((left_of o (l ++ x, answers)).0 ≡ (left_of p (l, answers)).0 ++ x)
    × ((left_of o (l ++ x, answers)).1 ≡ (left_of p (l, answers)).1)
run_alike true n l x answers d c f g h = (refl, refl, refl)
run_alike false n l x answers d c f g h = (ap accepted f, g, h)

pub past_unread : (l x : List ℕ) → IsLayout l → PastUnread ours l x
unfolding save_of length_of run_of whole_walk start_index_of started_index with_entry
past_unread l x e = record {
  play = play_alone l x e;
  grow = λ ws ix. let k = grow_past l x ws ix e in (k.said, k.table, k.index);
  play_run = λ ws from answers.
      let k = walk_alone x (length answers / entry_words) ws from l e in
      rw (well_alone l x e)
      (run_alike (not (well_made l)) TABLE l x answers _ _ (rw (k.packets, k.next)) k.table
      (ap (λ (es : List ℕ). es ++ drop (length es) answers) k.entries));
  well_made = well_alone l x e;
  page_length = rw (well_alone l x e, length_alone l x e);
  save = λ page. rw (well_alone l x e, length_alone l x e, page_alone l x e);
  start_index = λ ix. rw (well_alone l x e, length_alone l x e, page_alone l x e);
  reading = reading_alone l x e;
  readings = readings_alone l x e;
  held_words = held_alone l x e;
  identity = identity_alone l x e;
  counts = counts_alone l x e;
  own_table = own_alone l x e;
  changed_before = before_alone l x e;
  changed_after = after_alone l x e;
}
