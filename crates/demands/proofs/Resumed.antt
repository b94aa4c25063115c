-- Stopping and resuming. The idea: a page that was saved holds the table's layout, so the table that it is put back into is right for the packets before
-- (`right_layout`), and goes on as any right table does; by the rules, and since they leave nothing open, as the unbroken play. A day is these two steps taken
-- again and again (`day_on`); its pages are those of the unbroken play, since a page looks at the layout alone (`page_layout`).
use Rattle.words.proofs.Kit.{◌≡◌, refl, sym, ap, ◌∙◌, true, ⊎_elim, List, [], ◌∷◌, ◌++◌, ℕ, ◌≤◌, ◌<◌, arith, lt-ltb, le-ltb, length, take, drop}
use mathlib.Core.List.{append-nil, append_assoc}
use lib.ListN.{take-append-drop}
use lib.Seq.{take_at, drop_at, length-take-le}
use Rattle.words.specs.Numbers.{ROOM}
use Rattle.words.specs.Outcome.{refused, accepted, Done}
use Rattle.words.specs.Told.{Told}
use Rattle.words.proofs.Cases.{le_or_lt, accepted_same}
use Rattle.words.proofs.RefusalLaws.{first_passed}
use Rattle.record.specs.Layout.{identifier_of, choice_of, order_of, count_words}
use Rattle.table.specs.Layout.{streams_of, base, record_at}
use Rattle.table.specs.Well.{well_made}
use Rattle.table.proofs.RecordLaws.{record_identifier}
use Rattle.table.proofs.WellLaws.{well_whole}
use Rattle.play.specs.declared.Heard.{Heard}
use Rattle.page.specs.Layout.{page_from, page_of, page_length}
use Rattle.page.specs.Save.{size_limit, save_list, save_of}
use Rattle.page.specs.PutBack.{put_back_of}
use Rattle.page.proofs.LayoutLaws.{record_in, table_streams}
use Rattle.page.proofs.Bounds.{body_between, page_between, page_small, page_whole}
use Rattle.page.proofs.Exact.{table_back, page_passes, table_well, page_back, page_tested}
use Rattle.page.proofs.RoundTrip.{save_accepted, put_back_saved}
use Rattle.demands.specs.Listing.{Listing, streams_in}
use Rattle.demands.specs.Trace.{trace_of, answers_after}
use Rattle.demands.specs.Program.{ours, play_all}
use Rattle.demands.specs.Right.{held_in, Right, layout_of, past_of}
use Rattle.demands.specs.Resumed.{SavesAs, Saves, Resumes, Stop, Day, over, plays, stops, SamePages, DayRight}
use Rattle.demands.proofs.HearingLaws.{record_whole}
use Rattle.demands.proofs.RightLaws.{right_listed, trace_append, right_more, right_answer, right_on, answers_on, past_on}
use Rattle.demands.proofs.Determined.{determined, layout_is}

-- ---- a right layout, whatever follows it

module _ (list : Listing) (packets : List (List ℕ)) (t rest : List ℕ) (r : Right list packets t) where
  record_same : (s : ℕ) → s < streams_in list → record_at s (layout_of list t ++ rest) ≡ record_at s t
  record_same s h =
      ap (λ (l : List ℕ). record_at s (l ++ rest)) (sym (layout_is r))
      ∙ record_in (streams_in list) (λ x. record_at x t) (record_whole list t (right_listed r)) s rest h

  pub right_layout : Right list packets (layout_of list t ++ rest)
  right_layout = record {
    made = rw (table_back t r.made, r.streams) at (table_well (page_of t) (page_passes t r.made) rest);
    streams = ap (λ (l : List ℕ). streams_of (l ++ rest)) (sym (layout_is r)) ∙ table_streams (streams_in list) (λ x. record_at x t) rest;
    identifiers = λ s h. sym (record_identifier s (layout_of list t ++ rest)) ∙ ap identifier_of (record_same s h) ∙ record_identifier s t ∙ r.identifiers s h;
    choices = λ s h. ap choice_of (record_same s h) ∙ r.choices s h;
    held = λ s h x. ap (held_in x) (record_same s h) ∙ r.held s h x;
    counts = λ s h kind o. ap (count_words (order_of kind)) (record_same s h) ∙ r.counts s h kind o;
  }

  -- what follows is past it
  pub past_layout : past_of list (layout_of list t ++ rest) ≡ rest
  past_layout =
      let l : base (streams_in list) ≤ length t = rw r.streams at (well_whole t r.made) in
      drop_at (layout_of list t) rest (base (streams_in list)) (length-take-le (base (streams_in list)) t l)

-- ---- saving

-- a well-made table saves its page where there is room, and else gives ROOM
pub saves_as : (t : List ℕ) → well_made t ≡ true → SavesAs ours t (page_of t)
saves_as t w lent h =
    let l : page_length t ≡ length (page_of t) = sym (page_whole t w) in
    rw l at (save_accepted t lent w (omega (arith, l)))

no_room_for : (t lent : List ℕ) → well_made t ≡ true → length lent < length (page_of t) → save_of t lent ≡ refused ROOM
unfolding save_of
no_room_for t lent w h =
    let g : length lent < page_length t = omega (arith, page_whole t w) in
    rw (w, le-ltb size_limit (page_length t) (omega (arith, page_small t w)), lt-ltb (length lent) (page_length t) g)

pub saves : (list : Listing) (packets : List (List ℕ)) (t : List ℕ) → Right list packets t → Saves ours list t
saves list packets t r =
    let l = page_whole t r.made in
    let b = page_between t r.made in
    record {
      page = page_of t;
      least = omega (arith, l, b.0, r.streams);
      most = omega (arith, l, b.1, r.streams);
      bodies = λ s h. (body_between t r.made s (rw r.streams h)).1;
      fits = saves_as t r.made;
      short = λ lent h. no_room_for t lent r.made h;
    }

-- the words that were written are the page
pub page_words : (t buffer : List ℕ) (w : well_made t ≡ true) (e : Done ℕ (List ℕ)) → save_of t buffer ≡ accepted e → take e.says e.leaves ≡ page_of t
unfolding save_of
page_words t buffer w e s =
    rw (← accepted_same (first_passed (save_list t buffer) _ e s).1) (take_at (page_of t) (drop (page_length t) buffer) (page_length t) (page_whole t w))

-- the page that a table saves is its page
pub saved_page : (t p : List ℕ) → well_made t ≡ true → SavesAs ours t p → page_of t ≡ p
saved_page t p w f = sym (page_words t p w _ (f p (omega arith))) ∙ take_at p (drop (length p) p) (length p) refl

-- tables that are right for the same packets have one page, since a page looks at the layout alone
page_layout : (list : Listing) (packets : List (List ℕ)) (t u : List ℕ) → Right list packets t → Right list packets u → page_of t ≡ page_of u
page_layout list packets t u p q =
    let back : (v : List ℕ) → Right list packets v → (rest : List ℕ) → page_of (layout_of list v ++ rest) ≡ page_of v =
    λ v r rest. rw (table_back v r.made, r.streams) at (page_back (page_of v) (page_passes v r.made) rest) in
    sym (back t p (past_of list u))
    ∙ ap (λ (l : List ℕ). page_of (l ++ past_of list u)) (determined list packets t u p q)
    ∙ ap page_of (take-append-drop (base (streams_in list)) u)

-- ---- putting back

-- the table of a stop: right for the packets `first`, saved into a buffer
module _ (list : Listing) (first : List (List ℕ)) (t : List ℕ) (r : Right list first t) (buffer : List ℕ) (saved : Done ℕ (List ℕ))
    (s : save_of t buffer ≡ accepted saved) (lent : List ℕ) where
  pub no_room : length lent < base (streams_in list) → put_back_of (take saved.says saved.leaves) lent ≡ refused ROOM
  unfolding put_back_of page_of page_from
  no_room h =
      let g : length lent < base (streams_of t) = rw r.streams h in
      ap (λ (p : List ℕ). put_back_of p lent) (page_words t buffer r.made saved s)
      ∙ rw (← page_tested _, page_passes t r.made, lt-ltb (length lent) (base (streams_of t)) g)

  put_back : base (streams_in list) ≤ length lent
      → put_back_of (take saved.says saved.leaves) lent ≡ accepted (record { says = base (streams_in list); leaves = layout_of list t ++ past_of list lent })
  put_back room =
      let l : base (streams_of t) ≤ length lent = rw r.streams room in
      ap (λ (p : List ℕ). put_back_of p lent) (page_words t buffer r.made saved s) ∙ rw r.streams at (put_back_saved t lent r.made l)

  abbrev back : List ℕ
  back = layout_of list t ++ past_of list lent

  here : Right list first (layout_of list t ++ past_of list lent)
  here = right_layout list first t (past_of list lent) r

  pub resumes : (rest : List (List ℕ)) → base (streams_in list) ≤ length lent → Resumes ours list t first rest (take saved.says saved.leaves) lent
  resumes rest room =
      let on : Right list (first ++ rest) (play_all ours back rest) = right_on list first rest back here in
      record {
        done = record { says = base (streams_in list); leaves = back };
        accepts = put_back room;
        says = refl;
        right = on;
        answers = answers_on list first rest back here;
        same_answers = answers_on list first rest back here ∙ sym (answers_on list first rest t r);
        same_table = determined list (first ++ rest) _ _ on (right_on list first rest t r);
        past = past_on list rest back here.streams ∙ past_layout list first t (past_of list lent) r;
      }

  -- whatever was put back is right for the same packets
  pub put_right : (done : Done ℕ (List ℕ)) → put_back_of (take saved.says saved.leaves) lent ≡ accepted done → Right list first done.leaves
  put_right done e =
      ⊎_elim
      (λ (h : base (streams_in list) ≤ length lent).
      let same : record { says = base (streams_in list); leaves = back } ≡ done = accepted_same (sym (put_back h) ∙ e) in
      rw (ap (λ (d : Done ℕ (List ℕ)). d.leaves) same) at here)
      (λ (h : length lent < base (streams_in list)).
      let no : refused ROOM ≡ accepted done = sym (no_room h) ∙ e in
      let z : ◌≡◌ {A = ℕ} 0 1 = cc in
      absurd (omega arith))
      (le_or_lt (base (streams_in list)) (length lent))

-- ---- a day

-- what holds of a day from where it has had the packets `before`; u is the morning's table
record DayOn (list : Listing) (first : List (List ℕ)) (u : List ℕ) (before packets : List (List ℕ)) (answers : List (Told Heard)) (stops : List Stop)
    (last : List ℕ) : Type 0 where
  right : Right list ((first ++ before) ++ packets) last
  ruled : answers ≡ answers_after (trace_of list (first ++ before)) (trace_of list packets)
  pages : SamePages ours u stops

module _ (list : Listing) (first : List (List ℕ)) (u : List ℕ) (morning : Right list first u) where
  day_on : {before packets : List (List ℕ)} {t last : List ℕ} {answers : List (Told Heard)} {later : List Stop} → Right list (first ++ before) t
      → Day ours before t packets answers later last → DayOn list first u before packets answers later last
  day_on {before} r over = record { right = rw (append-nil (first ++ before)) r; ruled = refl; pages = tt }
  day_on {before} {t = t} r (plays {packets = packets} ws d) =
      let more : first ++ (before ++ (ws ∷ [])) ≡ (first ++ before) ++ (ws ∷ []) = sym (append_assoc first before (ws ∷ [])) in
      let k = day_on (rw more (right_more list (first ++ before) t r ws)) d in
      record {
        right = rw (more, append_assoc (first ++ before) (ws ∷ []) packets) at k.right;
        ruled = rw (right_answer list (first ++ before) t r ws, k.ruled, more, trace_append list (first ++ before) (ws ∷ []));
        pages = k.pages;
      }
  day_on {before} {t = t} r (stops buffer lent saved back s e d) =
      let k = day_on (put_right list (first ++ before) t r buffer saved s lent back e) d in
      let unbroken = right_on list first before u morning in
      let same : page_of (play_all ours u before) ≡ take saved.says saved.leaves =
      page_layout list (first ++ before) _ _ unbroken r ∙ sym (page_words t buffer r.made saved s) in
      record { right = k.right; ruled = k.ruled; pages = (rw same at (saves_as (play_all ours u before) unbroken.made), k.pages) }

  pub days : (packets : List (List ℕ)) (last : List ℕ) (answers : List (Told Heard)) (later : List Stop) → Day ours [] u packets answers later last
      → DayRight ours list first u packets answers later last
  days packets last answers later d =
      let none : first ++ [] ≡ first = append-nil first in
      let k = day_on (rw none morning) d in
      let on : Right list (first ++ packets) last = rw none at k.right in
      let said : answers ≡ answers_after (trace_of list first) (trace_of list packets) = rw none at k.ruled in
      record {
        right = on;
        ruled = said;
        same_answers = said ∙ sym (answers_on list first packets u morning);
        same_table = determined list (first ++ packets) _ _ on (right_on list first packets u morning);
        same_pages = k.pages;
      }
