-- An index grown over a recording. The idea: by induction over how it was grown, the recording has the packets that were taken in, and they lead to the place
-- and the table of the index and the caller; and each entry has the place and the page of the table that its 1,024 j packets lead to (`GrownTo`). A packet that
-- is taken in is played alike from the words that are given and from the recording, and on any table with the layout of the unbroken play (`same_left`), so it
-- leads one packet further.
use Rattle.words.proofs.Kit.{◌≡◌, refl, sym, ap, ◌∙◌, true, false, ⊎_elim, List, ◌++◌, ℕ, suc, ◌+◌, ◌*◌, ◌≤◌, ◌<◌, arith, ltb-false, not-false}
use Rattle.words.proofs.Kit.{length, take, drop, get_or}
use native.Mathlib.Numerals.{add-one}
use lib.ListN.{get_or-append}
use Rattle.words.specs.Outcome.{accepted, Done, said_of, left_of}
use Rattle.words.proofs.Cases.{le_or_lt, true_or_false, accepted_same}
use Rattle.words.proofs.RefusalLaws.{first_passed}
use Rattle.fields.proofs.PlaceLaws.{first_word}
use Rattle.table.specs.Layout.{streams_of, layout_words}
use Rattle.table.specs.Well.{well_made}
use Rattle.play.specs.Play.{play_told}
use Rattle.play.specs.Run.{goes_on, said_at, left_at, next_of}
use Rattle.play.proofs.KeepLaws.{Kept, kept_at}
use Rattle.play.proofs.BeyondLaws.{goes_inside, play_beyond}
use Rattle.page.specs.Layout.{page_of}
use Rattle.index.specs.Layout.{spacing, entries_in, packets_taken, place_reached, entry_place, page_in, pages_end}
use Rattle.index.specs.Good.{index_good}
use Rattle.index.specs.Start.{start_words, started_index, start_index_list, start_index_of}
use Rattle.index.proofs.GoodLaws.{index_of}
use Rattle.index.proofs.WrittenLaws.{start_good, start_entry, moved_entries, moved_packets, moved_place, moved_entry, moved_page, moved_good}
use Rattle.index_grow.specs.declared.Taken.{Taken}
use Rattle.index_grow.specs.Grow.{table_taken, place_then, reaches_entry, index_then, grow_told}
use Rattle.index_grow.proofs.AnswerLaws.{GrowTaken, grow_taken}
use Rattle.index_grow.proofs.KeptLaws.{then_good, then_packets, then_place, then_entries, then_more, then_same, then_entry}
use Rattle.index_jump.specs.Onward.{Behind, behind_packets}
use Rattle.index_jump.proofs.BehindLaws.{behind_none, behind_more, behind_kept}
use Rattle.demands.specs.Program.{ours}
use Rattle.demands.proofs.SameLayout.{same_said, same_left, same_page}
use Rattle.demands.specs.Jumped.{GrownOver, started, grown, moved, landed}

-- ---- what is known where starting or growing accepts

pub start_taken : (t ix : List ℕ) (d : Done ℕ (List ℕ)) → start_index_of t ix ≡ accepted d
    → (well_made t ≡ true) × (start_words t ≤ length ix) × (d.leaves ≡ started_index t ix)
unfolding start_index_of
start_taken t ix d e =
    let q = first_passed (start_index_list t ix) _ d e in (
      not-false (well_made t) q.0.0,
      ltb-false (length ix) (start_words t) q.0.1.0,
      ap (λ (x : Done ℕ (List ℕ)). x.leaves) (sym (accepted_same q.1)),
    )

-- ---- where an index stands in the recording ws, which begins with the table first

-- all packets were there, and lead to a place and a table
abbrev pub standing : ℕ → List ℕ → Behind
standing place t = record { all = true; place = place; table = t }

pub record EntryOver (ws first ix : List ℕ) (j : ℕ) : Type 0 where
  pub table : List ℕ
  pub behind : behind_packets (spacing * j) ws 0 first ≡ standing (entry_place ix j) table
  pub page : page_in ix j ≡ page_of table

-- `unbroken` is the table of the unbroken play; t has its layout
pub record GrownTo (ws first : List ℕ) (n : ℕ) (t ix : List ℕ) : Type 0 where
  pub good : index_good ix ≡ true
  pub packets : packets_taken ix ≡ n
  pub well : well_made first ≡ true
  pub unbroken : List ℕ
  pub behind : behind_packets n ws 0 first ≡ standing (place_reached ix) unbroken
  pub same : take (layout_words (streams_of first)) t ≡ take (layout_words (streams_of first)) unbroken
  pub entries : (j : ℕ) → j < entries_in ix → EntryOver ws first ix j

module _ (ws first : List ℕ) where
  entry_same : (ix last : List ℕ) (j : ℕ) → entry_place last j ≡ entry_place ix j → page_in last j ≡ page_in ix j
      → EntryOver ws first ix j → EntryOver ws first last j
  entry_same ix last j e f o =
      record { table = o.table; behind = o.behind ∙ ap (λ (p : ℕ). standing p o.table) (sym e); page = f ∙ o.page }

  -- ---- it is started

  grown_started : (lent : List ℕ) (d : Done ℕ (List ℕ)) → start_index_of first lent ≡ accepted d → GrownTo ws first 0 first d.leaves
  grown_started lent d e =
      let k = start_taken first lent d e in
      let good = start_good first lent k.0 k.1 in
      let s = start_entry first lent k.0 k.1 in
      let here : (p : ℕ) → p ≡ 0 → behind_packets 0 ws 0 first ≡ standing p first = λ p f. behind_none ws 0 first ∙ ap (λ (q : ℕ). standing q first) (sym f) in
      rw k.2
      (record {
        good = good;
        packets = s.packets;
        well = k.0;
        unbroken = first;
        behind = here (place_reached (started_index first lent)) s.reached;
        same = refl;
        entries = λ j h.
            let none : j ≡ 0 = omega (arith, h, (index_of (started_index first lent) good).entries, s.packets) in
            rw none (record { table = first; behind = here (entry_place (started_index first lent) 0) s.place; page = s.page });
      })

  module _ (n : ℕ) (t ix : List ℕ) (g : GrownTo ws first n t ix) where
    -- ---- it is kept elsewhere

    grown_moved : (kept : List ℕ) → pages_end ix ≤ length kept → take (pages_end ix) kept ≡ take (pages_end ix) ix → GrownTo ws first n t kept
    grown_moved kept room e =
        let good = g.good in
        record {
          good = moved_good ix kept good room e;
          packets = moved_packets ix kept good room e ∙ g.packets;
          well = g.well;
          unbroken = g.unbroken;
          behind = g.behind ∙ ap (λ (p : ℕ). standing p g.unbroken) (sym (moved_place ix kept good room e));
          same = g.same;
          entries = λ j h.
              let i : j < entries_in ix = omega (arith, h, moved_entries ix kept good room e) in
              entry_same ix kept j (moved_entry ix kept good room e j i).place (moved_page ix kept good room e j i) (g.entries j i);
        }

    -- ---- the table is another with the same layout

    grown_landed : (u : List ℕ) → take (layout_words (streams_of first)) u ≡ take (layout_words (streams_of first)) t → GrownTo ws first n u ix
    grown_landed u e = record {
      good = g.good;
      packets = g.packets;
      well = g.well;
      unbroken = g.unbroken;
      behind = g.behind;
      same = e ∙ g.same;
      entries = g.entries;
    }

    -- ---- it takes in a packet, from words that are given

    module _ (given rest : List ℕ) (cut : drop (place_reached ix) ws ≡ given ++ rest) (d : Done Taken (List ℕ × List ℕ))
        (e : grow_told t given ix ≡ accepted d) where
      k : GrowTaken t given ix d
      k = grow_taken t given ix d e

      played : play_told t (drop (place_reached ix) ws) ≡ play_told t given
      played = ap (play_told t) cut ∙ play_beyond t given rest k.ready.table k.goes

      -- the same packet on the table of the unbroken play
      abbrev whole : List ℕ
      whole = g.unbroken

      abbrev after : List ℕ
      after = left_at g.unbroken ws (place_reached ix)

      before : Kept first whole
      before = rw g.behind at (behind_kept n ws 0 first)

      whole_well : well_made whole ≡ true
      whole_well = before.well g.well

      whole_same : take (layout_words (streams_of whole)) t ≡ take (layout_words (streams_of whole)) whole
      whole_same = rw before.streams g.same

      goes_there : goes_on (said_at g.unbroken ws (place_reached ix)) ≡ true
      unfolding said_at
      goes_there =
          ap goes_on (sym (same_said whole t whole_well k.ready.table whole_same (drop (place_reached ix) ws))) ∙ ap (λ o. goes_on (said_of o)) played ∙ k.goes

      same_then : take (layout_words (streams_of first)) (table_taken t given) ≡ take (layout_words (streams_of first)) after
      unfolding left_at table_taken
      same_then =
          ap (λ o. take (layout_words (streams_of first)) (left_of o t)) (sym played)
          ∙ rw before.streams at (same_left whole t whole_well k.ready.table whole_same (drop (place_reached ix) ws))

      later : Kept whole after
      later = kept_at whole ws (place_reached ix)

      page_then : page_of (table_taken t given) ≡ page_of after
      page_then =
          same_page after (table_taken t given) (later.well whole_well) k.well (rw (later.streams, before.streams) same_then)

      header_there : get_or ws (place_reached ix) 0 ≡ get_or given 0 0
      unfolding said_at
      header_there =
          let inside = goes_inside t given 0 k.ready.table k.goes in
          sym (first_word (place_reached ix) ws) ∙ ap (λ (l : List ℕ). get_or l 0 0) cut
          ∙ get_or-append given rest 0 0 (omega (arith, inside.0, inside.1))

      next_there : next_of g.unbroken ws (place_reached ix) ≡ place_then given ix
      unfolding next_of
      next_there = rw (goes_there, header_there)

      one_more : behind_packets (n + 1) ws 0 first ≡ standing (place_then given ix) after
      one_more =
          let there : (behind_packets n ws 0 first).all ≡ true = ap (λ (b : Behind). b.all) g.behind in
          rw (g.behind, next_there) at (behind_more n ws 0 first there (rw g.behind goes_there))

      last_entry : reaches_entry ix ≡ true → EntryOver ws first (index_then t given ix) (entries_in ix)
      last_entry r =
          let s = then_entry t given ix g.good k.well k.fits r in
          record {
            table = after;
            behind =
                ap (λ (i : ℕ). behind_packets i ws 0 first) (s.2 ∙ ap (λ (i : ℕ). i + 1) g.packets) ∙ one_more
                ∙ ap (λ (p : ℕ). standing p after) (sym s.0);
            page = s.1 ∙ page_then;
          }

      entries_then : (j : ℕ) → j < entries_in (index_then t given ix) → EntryOver ws first (index_then t given ix) j
      entries_then j h =
          let kept : j < entries_in ix → EntryOver ws first (index_then t given ix) j =
          λ i. let s = then_same t given ix g.good k.well k.fits j i in entry_same ix (index_then t given ix) j s.0 s.1 (g.entries j i) in
          ⊎_elim
          (λ (r : reaches_entry ix ≡ true).
          ⊎_elim
          (λ (i : entries_in ix ≤ j).
          let last : j ≡ entries_in ix = omega (arith, h, then_more t given ix g.good k.well k.fits r) in
          rw last (last_entry r))
          kept (le_or_lt (entries_in ix) j))
          (λ (r : reaches_entry ix ≡ false). kept (omega (arith, h, then_entries t given ix g.good k.well k.fits r)))
          (true_or_false (reaches_entry ix))

      grown_on : GrownTo ws first (suc n) d.leaves.0 d.leaves.1
      grown_on =
          let place = then_place t given ix g.good k.well k.fits in
          rw (k.is, ← add-one n)
          (record {
            good = then_good t given ix g.good k.well k.fits;
            packets = then_packets t given ix g.good k.well k.fits ∙ ap (λ (i : ℕ). i + 1) g.packets;
            well = g.well;
            unbroken = after;
            behind = one_more ∙ ap (λ (p : ℕ). standing p after) (sym place);
            same = same_then;
            entries = entries_then;
          })

  pub grown_to : {n : ℕ} {t ix : List ℕ} → GrownOver ours ws first n t ix → GrownTo ws first n t ix
  grown_to (started {lent = lent} d e) = grown_started lent d e
  grown_to (grown {n = n} {t = t} {ix = ix} g given rest cut d e) = grown_on n t ix (grown_to g) given rest cut d e
  grown_to (moved {n = n} {t = t} {ix = ix} kept g room e) = grown_moved n t ix (grown_to g) kept room e
  grown_to (landed {n = n} {t = t} {ix = ix} u g e) = grown_landed n t ix (grown_to g) u e
