-- Room for the next entry behind any packet. The idea: each return is a test of `room_for_any`; and a packet changes no number of streams, so that no page
-- behind it is longer than the longest of so many (`any_fits`).
use Rattle.std.specs.Prelude.{Result}
use Rattle.words.proofs.Kit.{◌≡◌, sym, ◌∙◌, Bool, true, false, List, ℕ, ◌+◌, ◌*◌, ◌^◌, ◌≤◌, ◌<◌, arith, le-ltb, lt-ltb, lt-leb, leb, ltb, length}
use borrow.Author.Tests.{ltb-true, leb-true}
use Rattle.words.specs.declared.RefusedAt.{RefusedAt}
use Rattle.words.specs.Told.{told_paper}
use Rattle.words.specs.Outcome.{Meets}
use Rattle.words.proofs.Cases.{both_left, both_right, both_no}
use Rattle.table.specs.Layout.{streams_of}
use Rattle.play.specs.Run.{left_at}
use Rattle.play.proofs.KeepLaws.{Kept, kept_at}
use Rattle.page.specs.Layout.{page_length}
use Rattle.page.proofs.Bounds.{page_between}
use Rattle.index.specs.Layout.{most_entries, entries_in, pages_end}
use Rattle.index_grow.specs.declared.Taken.{Taken}
use Rattle.index_grow.specs.Grow.{table_taken, reaches_entry, entry_lacks, grow_told}
use Rattle.index_grow.specs.inner.Steps.{Ready, GrownOn, room_for_any}
use Rattle.index_grow.proofs.GrowLaws.{grow_lent}

module _ (t ix : List ℕ) (j : ℕ) (i : (j ≡ entries_in ix) × (j < 2 ^ 32)) where
  pub any_many : 1024 ≤ j → false ≡ room_for_any t ix
  unfolding room_for_any
  any_many h = rw (← i.0, le-ltb j most_entries h)

  module _ (offset : ℕ) (few : j < 1024) (f : offset ≡ pages_end ix) where
    pub any_far : 4294967295 < offset → false ≡ room_for_any t ix
    unfolding room_for_any
    any_far h =
        let far : 4294967296 ≤ offset = omega arith in
        rw (lt-ltb (entries_in ix) most_entries (rw i.0 at few), le-ltb (pages_end ix) (2 ^ 32) (rw f at far))

    pub any_is : (k : ℕ) → (k ≡ streams_of t) × (k < 2 ^ 32) → offset ≤ 4294967295 → leb (offset + (2 + 90 * k)) (length ix) ≡ room_for_any t ix
    unfolding room_for_any
    any_is k e h =
        let near : offset < 4294967296 = omega arith in
        rw (lt-ltb (entries_in ix) most_entries (rw i.0 at few), lt-ltb (pages_end ix) (2 ^ 32) (rw f at near), f, e.0)

module _ (t ws ix : List ℕ) (q : Ready t ix) (b : Bool) (e : b ≡ room_for_any t ix) (y : b ≡ true) where
  any_parts : (entries_in ix < most_entries) × (pages_end ix < 2 ^ 32) × (pages_end ix + (2 + 90 * streams_of t) ≤ length ix)
  unfolding room_for_any
  any_parts =
      let all = sym e ∙ y in
      let few = both_left (ltb (entries_in ix) most_entries) _ all in
      let rest = both_right (ltb (entries_in ix) most_entries) _ all in (
        ltb-true (entries_in ix) most_entries few,
        ltb-true (pages_end ix) (2 ^ 32) (both_left (ltb (pages_end ix) (2 ^ 32)) _ rest),
        leb-true _ (length ix) (both_right (ltb (pages_end ix) (2 ^ 32)) _ rest),
      )

  after : Kept t (table_taken t ws)
  unfolding table_taken left_at
  after = kept_at t ws 0

  any_fits : entry_lacks (table_taken t ws) ix ≡ false
  unfolding entry_lacks
  any_fits =
      let p = any_parts in
      let most = (page_between (table_taken t ws) (after.well q.table)).1 in
      let fits : pages_end ix + page_length (table_taken t ws) ≤ length ix = omega (arith, p.2, most, after.streams) in
      rw (lt-leb most_entries (entries_in ix) p.0, lt-leb (2 ^ 32) (pages_end ix) p.1, le-ltb (length ix) _ fits)

  pub any_grown : (r : Result Taken RefusedAt) (left last : List ℕ) → GrownOn t ws ix r left last → Meets told_paper (grow_told t ws ix) (t, ix) r (left, last)
  any_grown r left last k = grow_lent t ws ix left last r (rw any_fits (both_no (reaches_entry ix))) q k
