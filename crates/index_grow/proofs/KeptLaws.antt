-- What growing leaves of an index that is well made. The idea: before the packet is counted it is the index that was, or at every 1,024th boundary that with an
-- entry more; either way it has the entries of all boundaries reached, and the earlier ones are as they were (`Kept`). Counting the packet changes nothing
-- behind the first four words, so what is left is well made, and says of each boundary what it said.
use Rattle.words.proofs.Kit.{◌≡◌, refl, ◌∙◌, Bool, true, false, ⊎_elim, List, ℕ, ◌+◌, ◌*◌, ◌%◌, ◌^◌, ◌≤◌, ◌<◌, arith, eqb-true, ltb-false, leb, ltb}
use Rattle.words.proofs.Kit.{length, get_or}
use borrow.Author.Tests.{eqb-false, leb-false}
use Rattle.words.specs.Tests.{pick, both, either}
use Rattle.words.proofs.Cases.{true_or_false}
use Rattle.words.proofs.RefusalLaws.{either_passed}
use Rattle.packet.specs.Header.{size_of}
use Rattle.table.specs.Well.{well_made}
use Rattle.page.specs.Layout.{page_of, page_length}
use Rattle.index.specs.Layout.{most_entries, spacing, index_contents, entries_in, packets_taken, place_reached, entry_place, entry_offset, page_in, pages_end}
use Rattle.index.specs.Layout.{boundaries_by, with_entry}
use Rattle.index.specs.Good.{most_place, index_good, GoodIndex}
use Rattle.index.proofs.GoodLaws.{index_of}
use Rattle.index.proofs.WrittenLaws.{SameEntry, Entries, reached_entries, reached_packets, reached_place_lem, reached_entry, reached_page, reached_good}
use Rattle.index.proofs.WrittenLaws.{entry_long, entry_place_lem, entry_offset_lem, entry_page, entry_other, page_other, entry_more, pages_behind, page_stands}
use Rattle.index_grow.specs.Grow.{table_taken, packets_then, place_then, reaches_entry, entry_lacks, index_then}

-- the index last before the packet is counted, which was ix
record Kept (ix last : List ℕ) : Type 0 where
  long : length last ≡ length ix
  few : boundaries_by (packets_then ix) ≤ most_entries
  entries : Entries last (boundaries_by (packets_then ix))
  same : (k : ℕ) → k < entries_in ix → SameEntry ix last k
  pages : (k : ℕ) → k < entries_in ix → page_in last k ≡ page_in ix k

module _ (t ws ix : List ℕ) (g : index_good ix ≡ true) (w : well_made (table_taken t ws) ≡ true)
    (r : both (reaches_entry ix) (entry_lacks (table_taken t ws) ix) ≡ false) where
  facts : GoodIndex ix
  facts = index_of ix g

  were : Entries ix (entries_in ix)
  were = record { places = facts.places; gapless = facts.gapless; inside = facts.inside }

  -- a packet has at most 65,535 words
  near : place_then ws ix ≤ most_place (packets_then ix)
  near = omega (arith, facts.reached)

  -- ---- at every 1,024th boundary

  abbrev more : List ℕ
  more = with_entry (entries_in ix) (place_then ws ix) (pages_end ix) (table_taken t ws) ix

  module _ (e : reaches_entry ix ≡ true) where
    boundary : spacing * entries_in ix ≡ packets_then ix
    boundary = omega (arith, facts.entries, eqb-true (packets_then ix % spacing) 0 e)

    one_more : boundaries_by (packets_then ix) ≡ entries_in ix + 1
    one_more = omega (arith, boundary)

    room : (entries_in ix < most_entries) × (pages_end ix + page_length (table_taken t ws) ≤ length ix)
    unfolding entry_lacks
    room =
        let far : Bool = leb (2 ^ 32) (pages_end ix) in
        let full : Bool = ltb (length ix) (pages_end ix + page_length (table_taken t ws)) in
        let a = either_passed (leb most_entries (entries_in ix)) (either far full) (rw e at r) in
        (leb-false most_entries (entries_in ix) a.0, ltb-false (length ix) _ (either_passed far full a.1).1)

    kept_more : Kept ix more
    kept_more =
        let b = room.0 in
        let o = pages_behind ix (entries_in ix) in
        let h = room.1 in
        let other : (k : ℕ) → k < entries_in ix → k ≡ entries_in ix → ⊥ = λ k i d. omega arith in
        record {
          long = entry_long (entries_in ix) (place_then ws ix) (pages_end ix) (table_taken t ws) ix w b o h;
          few = omega (arith, b, one_more);
          entries = rw one_more
              (entry_more (entries_in ix) (place_then ws ix) (table_taken t ws) ix w b h (omega (arith, near, boundary)) were);
          same = λ k i. entry_other (entries_in ix) (place_then ws ix) (pages_end ix) (table_taken t ws) ix w b o h k (other k i) (omega (arith, b));
          pages = λ k i.
              page_other (entries_in ix) (place_then ws ix) (pages_end ix) (table_taken t ws) ix w b o h k (other k i) (omega (arith, b))
              (page_stands ix facts k i).0 (page_stands ix facts k i).1;
        }

  -- ---- between them

  module _ (e : reaches_entry ix ≡ false) where
    no_more : boundaries_by (packets_then ix) ≡ entries_in ix
    no_more = let off : packets_then ix % spacing ≡ 0 → ⊥ = eqb-false (packets_then ix % spacing) 0 e in omega (arith, facts.entries)

    kept_as_was : Kept ix ix
    kept_as_was = record {
      long = refl;
      few = omega (arith, facts.few, no_more);
      entries = rw no_more were;
      same = λ k i. record { place = refl; offset = refl; size = refl };
      pages = λ k i. refl;
    }

  -- ---- with the packet counted

  abbrev uncounted : List ℕ
  uncounted = pick (reaches_entry ix) more ix

  kept : Kept ix uncounted
  kept = ⊎_elim (λ e. rw e (kept_more e)) (λ e. rw e (kept_as_was e)) (true_or_false (reaches_entry ix))

  whole : index_contents ≤ length uncounted
  whole = omega (arith, facts.whole, kept.long)

  pub then_good : index_good (index_then t ws ix) ≡ true
  unfolding index_then
  then_good = reached_good (packets_then ix) (place_then ws ix) uncounted whole kept.few near kept.entries

  pub then_packets : packets_taken (index_then t ws ix) ≡ packets_taken ix + 1
  unfolding index_then
  then_packets = reached_packets (packets_then ix) (place_then ws ix) uncounted whole

  pub then_place : place_reached (index_then t ws ix) ≡ place_reached ix + size_of (get_or ws 0 0)
  unfolding index_then
  then_place = reached_place_lem (packets_then ix) (place_then ws ix) uncounted whole

  -- the entries, those of before, and the new one
  entries_then : entries_in (index_then t ws ix) ≡ boundaries_by (packets_then ix)
  unfolding index_then
  entries_then = reached_entries (packets_then ix) (place_then ws ix) uncounted whole

  pub then_entries : reaches_entry ix ≡ false → entries_in (index_then t ws ix) ≡ entries_in ix
  then_entries e = entries_then ∙ no_more e

  pub then_more : reaches_entry ix ≡ true → entries_in (index_then t ws ix) ≡ entries_in ix + 1
  then_more e = entries_then ∙ one_more e

  pub then_same : (k : ℕ) → k < entries_in ix → (entry_place (index_then t ws ix) k ≡ entry_place ix k) × (page_in (index_then t ws ix) k ≡ page_in ix k)
  unfolding index_then
  then_same k h =
      let behind : 4 ≤ entry_offset uncounted k = omega (arith, (kept.same k h).offset, (page_stands ix facts k h).0) in (
        (reached_entry (packets_then ix) (place_then ws ix) uncounted whole k).place ∙ (kept.same k h).place,
        reached_page (packets_then ix) (place_then ws ix) uncounted whole k behind ∙ kept.pages k h,
      )

  pub then_entry : reaches_entry ix ≡ true
      → (entry_place (index_then t ws ix) (entries_in ix) ≡ place_reached ix + size_of (get_or ws 0 0))
      × (page_in (index_then t ws ix) (entries_in ix) ≡ page_of (table_taken t ws))
      × (spacing * entries_in ix ≡ packets_taken ix + 1)
  unfolding index_then
  then_entry e =
      let j : ℕ = entries_in ix in
      let b = (room e).0 in
      let o = pages_behind ix j in
      let h = (room e).1 in
      let long : index_contents ≤ length more = omega (arith, facts.whole, (kept_more e).long) in
      let behind : 4 ≤ entry_offset more j = omega (arith, o, entry_offset_lem j (place_then ws ix) (pages_end ix) (table_taken t ws) ix w b o h) in
      rw e (
        (reached_entry (packets_then ix) (place_then ws ix) more long j).place
            ∙ entry_place_lem j (place_then ws ix) (pages_end ix) (table_taken t ws) ix w b o h,
        reached_page (packets_then ix) (place_then ws ix) more long j behind ∙ entry_page j (place_then ws ix) (pages_end ix) (table_taken t ws) ix w b o h,
        boundary e,
      )
