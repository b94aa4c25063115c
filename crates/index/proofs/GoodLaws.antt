-- When contents are well made. The idea: the test says what `GoodIndex` says in facts (`index_of`, `of_index`); while the entries before it are right, page j
-- begins where the lengths say (`Listed`), so one pass tests them all.
use Rattle.words.proofs.Kit.{◌≡◌, refl, sym, ap, ◌∙◌, Bool, true, false, not, List, ℕ, ◌+◌, ◌*◌, ◌/◌, ◌^◌, ◌≤◌, ◌<◌, arith, eq-eqb, ne_eqb}
use Rattle.words.proofs.Kit.{le-leb, lt-leb, eqb-true, not-true, not-false, eqb, leb, length}
use native.Mathlib.Numerals.{add-one}
use borrow.Author.Tests.{leb-true}
use Rattle.words.specs.Tests.{both}
use Rattle.words.specs.All.{all}
use Rattle.words.proofs.Cases.{both_left, both_right, both_true}
use Rattle.words.proofs.AllLaws.{all_none, all_more, all_fails, all_end, all_at, all_intro}
use Rattle.index.specs.Layout.{most_entries, spacing, index_contents, entries_in, packets_taken, place_reached, entry_place, entry_offset, entry_length}
use Rattle.index.specs.Layout.{pages_from, pages_end, boundaries_by}
use Rattle.index.specs.Good.{most_place, entry_good, entries_good, index_good, GoodIndex}

-- ---- the test as facts

pub index_of : (ix : List ℕ) → index_good ix ≡ true → GoodIndex ix
unfolding index_good entries_good entry_good
index_of ix e =
    let n : ℕ = entries_in ix in
    let room : Bool = leb index_contents (length ix) in
    let count : Bool = eqb n (boundaries_by (packets_taken ix)) in
    let few : Bool = leb n most_entries in
    let low : Bool = leb (place_reached ix) (most_place (packets_taken ix)) in
    let entries : Bool = all n (entry_good ix) in
    let inside : Bool = leb (pages_end ix) (length ix) in
    let a = both_right room (both count (both few (both low (both entries inside)))) e in
    let b = both_right count (both few (both low (both entries inside))) a in
    let c = both_right few (both low (both entries inside)) b in
    let d = both_right low (both entries inside) c in
    let entry : (j : ℕ) → j < n → entry_good ix j ≡ true = λ j h. all_at (entry_good ix) n j h (both_left entries inside d) in
    record {
      whole = leb-true index_contents (length ix) (both_left room _ e);
      entries = eqb-true n (boundaries_by (packets_taken ix)) (both_left count _ a);
      few = leb-true n most_entries (both_left few _ b);
      reached = leb-true (place_reached ix) (most_place (packets_taken ix)) (both_left low _ c);
      places = λ j h. leb-true (entry_place ix j) (most_place (spacing * j)) (both_left _ (eqb (entry_offset ix j) (pages_from ix j)) (entry j h));
      gapless = λ j h.
          eqb-true (entry_offset ix j) (pages_from ix j) (both_right (leb (entry_place ix j) (most_place (spacing * j))) _ (entry j h));
      inside = leb-true (pages_end ix) (length ix) (both_right entries inside d);
    }

pub of_index : (ix : List ℕ) → GoodIndex ix → index_good ix ≡ true
unfolding index_good entries_good entry_good
of_index ix g =
    both_true _ _ (le-leb index_contents (length ix) g.whole)
    (both_true _ _ (eq-eqb (entries_in ix) (boundaries_by (packets_taken ix)) g.entries)
    (both_true _ _ (le-leb (entries_in ix) most_entries g.few)
    (both_true _ _ (le-leb (place_reached ix) (most_place (packets_taken ix)) g.reached)
    (both_true _ _
    (all_intro (entry_good ix) (entries_in ix)
    (λ j h.
    both_true _ _ (le-leb (entry_place ix j) (most_place (spacing * j)) (g.places j h)) (eq-eqb (entry_offset ix j) (pages_from ix j) (g.gapless j h))))
    (le-leb (pages_end ix) (length ix) g.inside)))))

-- ---- one entry: p is its word place, o its offset, m the highest place of its boundary; the pages before it end at the place at

module _ (ix : List ℕ) (j p m : ℕ) (f : p ≡ entry_place ix j) (g : m ≡ most_place (1024 * j)) where
  pub entry_far : m < p → leb p m ≡ entry_good ix j
  unfolding entry_good
  entry_far h = rw (← f, ← g, lt-leb p m h)

  pub entry_near : (at o : ℕ) → p ≤ m → at ≡ pages_from ix j → o ≡ entry_offset ix j → eqb o at ≡ entry_good ix j
  unfolding entry_good
  entry_near at o h e i = rw (← f, ← g, le-leb p m h, i, e)

-- ---- the loop that tests the entries, b being the answer to entry j

pub record Listed (ix : List ℕ) (n j at : ℕ) : Type 0 where
  pub most : j ≤ n
  pub right : all j (entry_good ix) ≡ true
  pub here : at ≡ pages_from ix j
  pub small : at ≤ 4100 + 4294967296 * j

pub listed_start : (ix : List ℕ) (n : ℕ) → Listed ix n 0 4100
unfolding pages_from
listed_start ix n = record { most = omega arith; right = all_none (entry_good ix); here = refl; small = omega arith }

pub listed_fails : (ix : List ℕ) (n j : ℕ) (b : Bool) → b ≡ entry_good ix j → not b ≡ true → j < n → false ≡ entries_good ix n
unfolding entries_good
listed_fails ix n j b e i h = rw (all_fails (entry_good ix) n j h (sym e ∙ not-true b i))

pub listed_turn : (ix : List ℕ) (n j at l : ℕ) (b : Bool) → Listed ix n j at → b ≡ entry_good ix j → not b ≡ false → (l ≡ entry_length ix j) × (l < 2 ^ 32)
    → j < n → Listed ix n (j + 1) (at + l)
unfolding pages_from
listed_turn ix n j at l b q e i g h = record {
  most = omega arith;
  right = all_more (entry_good ix) j q.right (sym e ∙ not-false b i);
  here = rw (add-one j) (omega (arith, q.here, g.0));
  small = omega (arith, q.small, g.1);
}

pub listed_end : (ix : List ℕ) (n j at : ℕ) → Listed ix n j at → n ≤ j → leb at (length ix) ≡ entries_good ix n
unfolding entries_good
listed_end ix n j at q h =
    let i : j ≡ n = omega (arith, q.most) in
    let b : at ≡ pages_from ix n = q.here ∙ ap (pages_from ix) i in
    rw (all_end (entry_good ix) n j i q.right, ← b)

-- ---- the contents, n being the entries, p the packets taken in, m the highest word place behind them, and at the word place that they have

pub index_short : (ix : List ℕ) → length ix < 4100 → false ≡ index_good ix
unfolding index_good
index_short ix h = rw (lt-leb index_contents (length ix) h)

module _ (ix : List ℕ) (n p : ℕ) (room : index_contents ≤ length ix) (e : n ≡ entries_in ix) (f : p ≡ packets_taken ix) where
  pub index_other : (n ≡ p / 1024 + 1 → ⊥) → false ≡ index_good ix
  unfolding index_good
  index_other h = rw (le-leb index_contents (length ix) room, ← e, ← f, ne_eqb n (boundaries_by p) h)

  module _ (k : n ≡ p / 1024 + 1) where
    pub index_many : 1024 < n → false ≡ index_good ix
    unfolding index_good
    index_many h = rw (le-leb index_contents (length ix) room, ← e, ← f, eq-eqb n (boundaries_by p) k, lt-leb n most_entries h)

    module _ (m at : ℕ) (few : n ≤ 1024) (g : m ≡ most_place p) (i : at ≡ place_reached ix) where
      pub index_far : m < at → false ≡ index_good ix
      unfolding index_good
      index_far h =
          rw (le-leb index_contents (length ix) room, ← e, ← f, eq-eqb n (boundaries_by p) k, le-leb n most_entries few, ← g, ← i, lt-leb at m h)

      pub index_all : (b : Bool) → at ≤ m → b ≡ entries_good ix n → b ≡ index_good ix
      unfolding index_good
      index_all b h d =
          rw (le-leb index_contents (length ix) room, ← e, ← f, eq-eqb n (boundaries_by p) k, le-leb n most_entries few, ← g, ← i, le-leb at m h) d
