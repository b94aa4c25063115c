-- Jumps. The idea: an index that was grown over a recording has, for the boundary before packet n, the place and the page of the table there (`grown_to`); the
-- packets from there to n, played on the page's table from the words that are handed in, lead where all n packets lead that are played on the first table
-- (`within`). What a jump leaves has then the layout of the unbroken play, and goes on as any right table does.
use Rattle.words.proofs.Kit.{◌≡◌, refl, sym, ap, ap₂, ◌∙◌, true, false, ⊎_elim, List, [], ◌∷◌, ◌++◌, ℕ, zero, suc, ◌+◌, ◌-◌, ◌*◌, ◌≤◌, ◌<◌, arith}
use Rattle.words.proofs.Kit.{le-leb, lt-leb, le-ltb, leb, ltb, length, take, drop, get_or}
use mathlib.Core.List.{append-nil}
use lib.ListN.{take-append-drop, length-drop}
use lib.Seq.{take_at, drop_at, length-take-le}
use borrow.Author.Tests.{ltb-true}
use Rattle.words.specs.Part.{part}
use Rattle.words.specs.Outcome.{left_of}
use Rattle.words.proofs.Cases.{true_or_false}
use Rattle.packet.specs.Header.{size_of}
use Rattle.table.specs.Layout.{streams_of, layout_words}
use Rattle.table.specs.Well.{well_made}
use Rattle.play.specs.Play.{play_told}
use Rattle.play.specs.Run.{said_at, left_at, next_of}
use Rattle.play.proofs.KeepLaws.{Kept}
use Rattle.page.specs.Layout.{page_from, page_of, bodies_in, table_from, table_of}
use Rattle.page.specs.inner.Tested.{page_ok}
use Rattle.page.proofs.Exact.{table_back, page_passes, back_length, table_well, page_tested}
use Rattle.index.specs.Layout.{most_entries, spacing, entries_in, packets_taken, place_reached, entry_place}
use Rattle.index.specs.Start.{start_words, started_index, start_index_of}
use Rattle.index.proofs.GoodLaws.{index_of}
use Rattle.index.proofs.WrittenLaws.{start_good, start_entry}
use Rattle.index_grow.specs.Grow.{table_taken, entry_lacks, grown_done}
use Rattle.index_grow.proofs.GrowLaws.{grow_accepts, grow_refuses}
use Rattle.index_grow.proofs.KeptLaws.{then_good, then_packets, then_place, then_entry}
use Rattle.index_jump.specs.Onward.{Behind, behind_packets}
use Rattle.index_jump.specs.Jump.{entry_before, packets_beyond, page_before, landing_words, landing, entry_serves, landed_done, jump_of}
use Rattle.index_jump.proofs.BehindLaws.{next_inside, behind_goes, behind_split, behind_fewer, behind_kept, behind_rises, behind_inside}
use Rattle.index_jump.proofs.WithinLaws.{with_past, behind_alone, further, behind_within}
use Rattle.index_jump.proofs.Facts as jump
use Rattle.demands.specs.Listing.{Listing, streams_in}
use Rattle.demands.specs.Trace.{heard_by}
use Rattle.demands.specs.Program.{ours, play_all}
use Rattle.demands.specs.Right.{Right, layout_of, past_of}
use Rattle.demands.specs.Recording.{goes_past, packets_from}
use Rattle.demands.specs.Jumped.{packets_behind, place_behind, Reaching, Lands, Jumps, JumpsRight, Grows, GrowsWhere, GrowsFull, StartsIndex}
use Rattle.demands.specs.Jumped.{StartsWhere, AsRun, Hands, span_end, span_over, PlaceExact, PageExact}
use Rattle.demands.proofs.RightLaws.{right_more, right_on, answers_on, past_on}
use Rattle.demands.proofs.RunLaws.{on_same}
use Rattle.demands.proofs.Determined.{determined}
use Rattle.demands.proofs.Resumed.{right_layout}
use Rattle.index_grow.proofs.AnswerLaws.{grow_taken}
use Rattle.demands.proofs.GrownLaws.{start_taken, EntryOver, GrownTo, grown_to}

-- ---- starting and growing

pub starts_index : StartsIndex ours
starts_index t ix d e =
    let k = start_taken t ix d e in
    let s = start_entry t ix k.0 k.1 in
    rw k.2 (start_good t ix k.0 k.1, s.packets, s.place, s.page)

pub grows : Grows ours
unfolding table_taken
grows t ws ix d e =
    let k = grow_taken t ws ix d e in
    let good = k.ready.index in
    rw k.is
    (record {
      goes = k.goes;
      said = refl;
      table = refl;
      contents = then_good t ws ix good k.well k.fits;
      packets = then_packets t ws ix good k.well k.fits;
      place = then_place t ws ix good k.well k.fits;
      entry = λ r. let s = then_entry t ws ix good k.well k.fits r in (s.0, s.1);
    })

-- wherever no refusal of their lists applies
pub starts_where : StartsWhere ours
unfolding start_index_of
starts_where t ix w h = (record { says = start_words t; leaves = started_index t ix }, rw (w, le-ltb (length ix) (start_words t) h))

pub grows_where : GrowsWhere ours
unfolding table_taken
grows_where t ws ix k = (grown_done t ws ix, grow_accepts t ws ix (record { table = k.table; index = k.contents }) k.goes k.fits)

-- 1,048,575 packets have reached 1,024 entries, and the next one would reach another
pub grows_full : GrowsFull ours
unfolding entry_lacks
grows_full t ws ix w g goes taken =
    let full : leb most_entries (entries_in ix) ≡ true = le-leb most_entries (entries_in ix) (omega (arith, (index_of ix g).entries, taken)) in
    grow_refuses t ws ix (record { table = w; index = g }) goes (rw (taken, full))

-- ---- packets played one by one, and packets behind a place

take_whole : (k : ℕ) (xs : List ℕ) → length xs ≡ k → take k xs ≡ xs
take_whole k xs e = ap (take k) (sym (append-nil xs)) ∙ take_at xs [] k e

played_behind : (n : ℕ) (ws : List ℕ) (at : ℕ) (t : List ℕ) → (behind_packets n ws at t).all ≡ true
    → (place_behind n ws at ≡ (behind_packets n ws at t).place) × (play_all ours t (packets_behind n ws at) ≡ (behind_packets n ws at t).table)
unfolding behind_packets next_of left_at
played_behind zero ws at t e = (refl, refl)
played_behind (suc n) ws at t e =
    let g = behind_goes ws at t n e in
    rw g (played_behind n ws (at + size_of (get_or ws at 0)) (left_of (play_told t (drop at ws)) t) (rw g at e))

-- ---- the landing

module _ (ws first : List ℕ) (taken : ℕ) (t ix : List ℕ) (g : GrownTo ws first taken t ix) (n : ℕ) (h : n ≤ taken) where
  -- the entry before packet n, its place, and the table at its boundary with the page that it saves
  entry : EntryOver ws first ix (entry_before n)
  entry = g.entries (entry_before n) (omega (arith, h, (index_of ix g.good).entries, g.packets))

  abbrev at : ℕ
  at = entry_place ix (entry_before n)

  abbrev u : List ℕ
  u = entry.table

  abbrev page : List ℕ
  page = page_of entry.table

  kept : Kept first u
  kept = rw entry.behind at (behind_kept (spacing * entry_before n) ws 0 first)

  passes : page_ok page ≡ true
  passes = page_passes u (kept.well g.well)

  -- the page's table is the layout of that table
  abbrev back : List ℕ
  back = table_of page

  abbrev past : List ℕ
  past = drop (layout_words (streams_of u)) u

  back_whole : back ++ past ≡ u
  back_whole = ap (λ (l : List ℕ). l ++ past) (table_back u (kept.well g.well)) ∙ take-append-drop (layout_words (streams_of u)) u

  back_well : well_made back ≡ true
  back_well = ap well_made (sym (append-nil back)) ∙ table_well page passes []

  back_streams : bodies_in page ≡ streams_of first
  unfolding page_of page_from
  back_streams = kept.streams

  back_layout : length back ≡ layout_words (streams_of back)
  unfolding table_of table_from
  back_layout = back_length page passes

  -- all n packets are there, and lead where those from the entry on lead
  all_there : (behind_packets n ws 0 first).all ≡ true
  all_there =
      let all : n + (taken - n) ≡ taken = omega arith in
      behind_fewer n (taken - n) ws 0 first (rw all (ap (λ (b : Behind). b.all) g.behind))

  from_entry : behind_packets n ws 0 first ≡ with_past past (behind_packets (packets_beyond n) ws at back)
  from_entry =
      let parts : spacing * entry_before n + packets_beyond n ≡ n = omega arith in
      let all : (behind_packets (spacing * entry_before n) ws 0 first).all ≡ true = ap (λ (b : Behind). b.all) entry.behind in
      rw (parts, entry.behind) at (behind_split (spacing * entry_before n) (packets_beyond n) ws 0 first all)
      ∙ ap (behind_packets (packets_beyond n) ws at) (sym back_whole)
      ∙ behind_alone past (packets_beyond n) ws at back back_layout

  module _ (from : ℕ) (given : List ℕ) (k : Reaching ws ix n from given) where
    abbrev landed : Behind
    landed = behind_packets (packets_beyond n) given (at - from) back

    landing_is : landing given from ix n ≡ landed
    unfolding landing
    landing_is = rw entry.page

    -- and so those of the words that are handed in
    within : behind_packets n ws 0 first ≡ with_past past (further from landed)
    within =
        let here : from + (at - from) ≡ at = omega (arith, k.begins) in
        let all : (behind_packets (packets_beyond n) ws at back).all ≡ true = ap (λ (b : Behind). b.all) (sym from_entry) ∙ all_there in
        let place : (behind_packets (packets_beyond n) ws at back).place ≡ place_behind n ws 0 =
        ap (λ (b : Behind). b.place) (sym from_entry) ∙ sym (played_behind n ws 0 first all_there).0 in
        from_entry
        ∙ ap (with_past past)
        (rw here at (behind_within ws given k.rest from k.cut (packets_beyond n) (at - from) back back_well (rw here all) (rw (here, place) k.reaches)))

    landed_all : landed.all ≡ true
    landed_all = ap (λ (b : Behind). b.all) (sym within) ∙ all_there

    landed_place : from + landed.place ≡ place_behind n ws 0
    landed_place = ap (λ (b : Behind). b.place) (sym within) ∙ sym (played_behind n ws 0 first all_there).0

    landed_table : landed.table ++ past ≡ play_all ours first (packets_behind n ws 0)
    landed_table = ap (λ (b : Behind). b.table) (sym within) ∙ sym (played_behind n ws 0 first all_there).1

    -- and the packets from the entry on, in the recording
    from_entry_all : (behind_packets (packets_beyond n) ws at back).all ≡ true
    from_entry_all = ap (λ (b : Behind). b.all) (sym from_entry) ∙ all_there

    from_entry_long : length (behind_packets (packets_beyond n) ws at back).table ≡ layout_words (streams_of first)
    from_entry_long = (behind_kept (packets_beyond n) ws at back).whole ∙ back_length page passes ∙ ap layout_words back_streams

    landed_long : length landed.table ≡ layout_words (streams_of first)
    landed_long = (behind_kept (packets_beyond n) given (at - from) back).whole ∙ back_length page passes ∙ ap layout_words back_streams

    landed_again : landed.table ≡ (behind_packets (packets_beyond n) ws at back).table
    landed_again =
        let joined : landed.table ++ past ≡ (behind_packets (packets_beyond n) ws at back).table ++ past =
        ap (λ (b : Behind). b.table) (sym within ∙ from_entry) in
        sym (take_at landed.table past (layout_words (streams_of first)) landed_long) ∙ ap (take (layout_words (streams_of first))) joined
        ∙ take_at (behind_packets (packets_beyond n) ws at back).table past (layout_words (streams_of first)) from_entry_long

    entry_played : (behind_packets (packets_beyond n) ws at back).table
        ≡ take (layout_words (streams_of first)) (play_all ours (table_of (page_before ix n))
        (packets_behind (packets_beyond n) ws (entry_place ix (entry_before n))))
    entry_played =
        sym (take_whole (layout_words (streams_of first)) _ from_entry_long)
        ∙ ap (take (layout_words (streams_of first))) (sym (played_behind (packets_beyond n) ws at back from_entry_all).1)
        ∙ ap (λ (p : List ℕ). take (layout_words (streams_of first)) (play_all ours (table_of p) (packets_behind (packets_beyond n) ws at))) (sym entry.page)

    -- ---- the jump

    words_is : landing_words ix n ≡ layout_words (streams_of first)
    words_is = ap (λ (p : List ℕ). layout_words (bodies_in p)) entry.page ∙ ap layout_words back_streams

    serves : entry_serves given from ix n ≡ true
    unfolding entry_serves
    serves =
        let near : at - from ≤ length given =
        omega (arith, k.begins, k.reaches, landed_place, behind_rises (packets_beyond n) given (at - from) back) in
        rw (landing_is, entry.page, ← page_tested page, passes, le-leb from at k.begins, le-leb (at - from) (length given) near) landed_all

    lands : (lent : List ℕ) → layout_words (streams_of first) ≤ length lent → Lands ours ws first ix n from given lent
    unfolding jump_of
    lands lent room =
        let fits : landing_words ix n ≤ length lent = omega (arith, room, words_is) in
        let rest : List ℕ = drop (landing_words ix n) lent in
        record {
          done = landed_done given from ix n lent;
          accepts = rw (g.good, le-ltb (packets_taken ix) n (omega (arith, h, g.packets)), serves, le-ltb (length lent) (landing_words ix n) fits);
          length = words_is;
          place = rw landing_is landed_place;
          table = rw (landing_is, ← landed_table)
              (take_at landed.table rest (layout_words (streams_of first)) landed_long
              ∙ sym (take_at landed.table past (layout_words (streams_of first)) landed_long));
          past = rw landing_is
              (drop_at landed.table rest (layout_words (streams_of first)) landed_long ∙ ap (λ (i : ℕ). drop i lent) words_is);
          few = jump.plays_at_most n;
          played = rw landing_is (take_at landed.table rest (layout_words (streams_of first)) landed_long ∙ landed_again ∙ entry_played);
        }

pub jumps : Jumps ours
jumps ws first taken t ix o n h from given k lent room = lands ws first taken t ix (grown_to ws first o) n h from given k lent room

-- ---- the words that are handed in

module _ (ws first : List ℕ) (taken : ℕ) (t ix : List ℕ) (g : GrownTo ws first taken t ix) where
  -- a boundary that was reached is there, stands inside the recording, and not behind a later one
  reached_all : (a : ℕ) → a ≤ taken → (behind_packets a ws 0 first).all ≡ true
  reached_all a h =
      let parts : a + (taken - a) ≡ taken = omega arith in
      behind_fewer a (taken - a) ws 0 first (rw parts (ap (λ (b : Behind). b.all) g.behind))

  reached_place_lem : (a : ℕ) → a ≤ taken → place_behind a ws 0 ≤ length ws
  reached_place_lem a h = rw (played_behind a ws 0 first (reached_all a h)).0 (behind_inside a ws 0 first g.well (omega arith))

  reached_rises : (a b : ℕ) → a ≤ b → b ≤ taken → place_behind a ws 0 ≤ place_behind b ws 0
  reached_rises a b h l =
      let parts : a + (b - a) ≡ b = omega arith in
      let all = reached_all a (omega arith) in
      let on = rw parts at (behind_split a (b - a) ws 0 first all) in
      rw ((played_behind a ws 0 first all).0, (played_behind b ws 0 first (reached_all b l)).0, on)
      (behind_rises (b - a) ws (behind_packets a ws 0 first).place (behind_packets a ws 0 first).table)

  reached_now : place_behind taken ws 0 ≡ place_reached ix
  reached_now = (played_behind taken ws 0 first (reached_all taken (omega arith))).0 ∙ ap (λ (b : Behind). b.place) g.behind

  entry_now : (j : ℕ) → j < entries_in ix → (spacing * j ≤ taken) × (place_behind (spacing * j) ws 0 ≡ entry_place ix j)
  entry_now j h =
      let low : spacing * j ≤ taken = omega (arith, h, (index_of ix g.good).entries, g.packets) in
      (low, (played_behind (spacing * j) ws 0 first (reached_all (spacing * j) low)).0 ∙ ap (λ (b : Behind). b.place) (g.entries j h).behind)

  module _ (n : ℕ) (h : n ≤ taken) where
    hands_all : Reaching ws ix n 0 ws
    hands_all = record {
      rest = [];
      cut = sym (append-nil ws);
      begins = omega arith;
      reaches = omega (arith, reached_place_lem n h);
    }

    there : entry_before n < entries_in ix
    there = omega (arith, h, (index_of ix g.good).entries, g.packets)

    abbrev from : ℕ
    from = entry_place ix (entry_before n)

    -- the end of the span is a boundary's that was reached, and not before packet n
    span_end_lem : (place_behind n ws 0 ≤ span_end ix n) × (span_end ix n ≤ length ws)
    span_end_lem =
        ⊎_elim
        (λ (y : ltb (entry_before n + 1) (entries_in ix) ≡ true).
        let k = entry_now (entry_before n + 1) (ltb-true (entry_before n + 1) (entries_in ix) y) in
        rw (y, ← k.1) (reached_rises n (spacing * (entry_before n + 1)) (omega arith) k.0, reached_place_lem (spacing * (entry_before n + 1)) k.0))
        (λ (y : ltb (entry_before n + 1) (entries_in ix) ≡ false).
        rw (y, ← reached_now) (reached_rises n taken h (omega arith), reached_place_lem taken (omega arith)))
        (true_or_false (ltb (entry_before n + 1) (entries_in ix)))

    hands_span : Reaching ws ix n from (span_over ws ix n)
    unfolding part
    hands_span =
        let k = entry_now (entry_before n) there in
        let rises : from ≤ place_behind n ws 0 = rw (← k.1) (reached_rises (spacing * entry_before n) n (omega arith) h) in
        let long : length (span_over ws ix n) ≡ span_end ix n - from =
        length-take-le (span_end ix n - from) (drop from ws) (omega (arith, length-drop from ws, span_end_lem.1)) in
        record {
          rest = drop (span_end ix n - from) (drop from ws);
          cut = sym (take-append-drop (span_end ix n - from) (drop from ws));
          begins = omega arith;
          reaches = omega (arith, long, rises, span_end_lem.0);
        }

-- a run over a recording goes past each packet behind which it goes on
run_behind : (list : Listing) (n : ℕ) (ws : List ℕ) (at : ℕ) (before : List (List ℕ)) (t : List ℕ) → Right list before t
    → (behind_packets n ws at t).all ≡ true → packets_from list n ws at ≡ packets_behind n ws at
unfolding behind_packets next_of left_at said_at
run_behind list zero ws at before t r e = refl
run_behind list (suc n) ws at before t r e =
    let g = behind_goes ws at t n e in
    let inside = next_inside t ws at r.made g in
    let some : at < length ws = omega (arith, inside.0, inside.1) in
    let past : goes_past (heard_by list (drop at ws)) ≡ true = sym (on_same list before t r (drop at ws)) ∙ g in
    let rest = run_behind list n ws (at + size_of (get_or ws at 0)) (before ++ (drop at ws ∷ [])) (left_of (play_told t (drop at ws)) t)
    (right_more list before t r (drop at ws)) (rw g at e) in
    rw (lt-leb (length ws) at some, past) (ap (λ (ps : List (List ℕ)). drop at ws ∷ ps) rest)

pub as_run : AsRun ours
as_run list before ws first r n t ix o =
    let g = grown_to ws first o in
    run_behind list n ws 0 before first r (ap (λ (b : Behind). b.all) g.behind)

pub hands : Hands ours
hands ws first taken t ix o n h = let g = grown_to ws first o in (hands_all ws first taken t ix g n h, hands_span ws first taken t ix g n h)

-- ---- from a right table

pub jumps_right : JumpsRight ours
jumps_right list before ws first r ix n from given lent l rest =
    let earlier : List (List ℕ) = packets_behind n ws 0 in
    let t : List ℕ = play_all ours first earlier in
    let landed : List ℕ = l.done.leaves in
    let q : Right list (before ++ earlier) t = right_on list before earlier first r in
    let table : layout_of list landed ≡ layout_of list t = rw r.streams at l.table in
    let past : past_of list landed ≡ past_of list lent = rw r.streams at l.past in
    let same : layout_of list t ++ past_of list lent ≡ landed =
    ap₂ ◌++◌ (sym table) (sym past) ∙ take-append-drop (layout_words (streams_in list)) landed in
    let here : Right list (before ++ earlier) landed = rw same at (right_layout list (before ++ earlier) t (past_of list lent) q) in
    let on : Right list ((before ++ earlier) ++ rest) (play_all ours landed rest) = right_on list (before ++ earlier) rest landed here in
    record {
      right = here;
      onward = on;
      answers = answers_on list (before ++ earlier) rest landed here;
      same_answers = answers_on list (before ++ earlier) rest landed here ∙ sym (answers_on list (before ++ earlier) rest t q);
      same_table = determined list ((before ++ earlier) ++ rest) _ _ on (right_on list (before ++ earlier) rest t q);
      past = past_on list rest landed here.streams ∙ past;
    }

-- ---- PLACE and PAGE

pub place_exact : PlaceExact ours
place_exact = jump.place_exact

pub page_exact : PageExact ours
page_exact = jump.page_exact
