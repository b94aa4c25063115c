-- A well-made table. The idea: `well_made` says what `WellMade` says in facts (`well_of`, `of_well`); a record replaced by a good one of the same identifier
-- keeps each of these facts (`well_with`).
use Rattle.words.proofs.Kit.{◌≡◌, refl, sym, ap, ◌∙◌, Bool, true, false, not, ⊎_elim, List, ℕ, ◌+◌, ◌-◌, ◌≤◌, ◌<◌, arith, le-leb, lt-leb}
use Rattle.words.proofs.Kit.{not-true, not-false, leb, length, take, drop}
use borrow.Author.Tests.{leb-true}
use Rattle.words.specs.Part.{part}
use Rattle.words.specs.Tests.{both}
use Rattle.words.specs.All.{all}
use Rattle.words.proofs.Cases.{same_or_not, both_left, both_right, both_true}
use Rattle.words.proofs.AllLaws.{all_at, all_intro}
use Rattle.words.proofs.PartLaws.{seen}
use Rattle.record.specs.Layout.{record_words, identifier_of}
use Rattle.record.specs.Good.{record_good}
use Rattle.record.proofs.GoodLaws.{good_of, of_good}
use Rattle.table.specs.Layout.{streams_of, base, layout_words, Has, record_at, with_record}
use Rattle.table.specs.Identifiers.{spaced, declared, list_good}
use Rattle.table.specs.Well.{record_good_at, well_made, WellMade}
use Rattle.table.proofs.RecordLaws.{record_length, with_length, record_with, record_with_other, streams_with, declared_with}
use Rattle.table.proofs.ListLaws.{list_of, of_list, list_same}

-- ---- the test as facts

-- a layout that is there has each record
pub layout_has : (t : List ℕ) (s : ℕ) → layout_words (streams_of t) ≤ length t → s < streams_of t → Has s t
layout_has t s h g = omega arith

module _ (t : List ℕ) (e : well_made t ≡ true) where
  abbrev there : Bool
  there = leb (layout_words (streams_of t)) (length t)

  abbrev valid : Bool
  valid = list_good (streams_of t) (declared t)

  abbrev good : Bool
  good = all (streams_of t) (record_good_at t)

  pub well_whole : layout_words (streams_of t) ≤ length t
  unfolding well_made
  well_whole = leb-true (layout_words (streams_of t)) (length t) (both_left there (both valid good) e)

  well_rest : both (list_good (streams_of t) (declared t)) (all (streams_of t) (record_good_at t)) ≡ true
  unfolding well_made
  well_rest = both_right there (both valid good) e

  pub well_list : list_good (streams_of t) (declared t) ≡ true
  well_list = both_left valid good well_rest

  pub well_few : streams_of t ≤ 32
  well_few = (list_of (streams_of t) (declared t) well_list).few

  pub well_record : (s : ℕ) → s < streams_of t → record_good (record_at s t) ≡ true
  unfolding record_good_at
  well_record s h = all_at (record_good_at t) (streams_of t) s h (both_right valid good well_rest)

  pub well_of : WellMade t
  well_of = record {
    whole = well_whole;
    list = list_of (streams_of t) (declared t) well_list;
    records = λ s h. good_of (record_at s t) (record_length s t (layout_has t s well_whole h)) (well_record s h);
  }

-- from the tests' own answers
pub well_from : (t : List ℕ) → layout_words (streams_of t) ≤ length t → list_good (streams_of t) (declared t) ≡ true
    → ((s : ℕ) → s < streams_of t → record_good (record_at s t) ≡ true) → well_made t ≡ true
unfolding well_made record_good_at
well_from t h l r = both_true _ _ (le-leb (layout_words (streams_of t)) (length t) h) (both_true _ _ l (all_intro (record_good_at t) (streams_of t) r))

pub of_well : (t : List ℕ) → WellMade t → well_made t ≡ true
of_well t w = well_from t w.whole (of_list (streams_of t) (declared t) w.list) (λ s h. of_good (record_at s t) (w.records s h))

-- ---- a record replaced by a good one of the same identifier

module _ (s : ℕ) (r t : List ℕ) (w : well_made t ≡ true) (h : s < streams_of t) (l : length r ≡ record_words) (i : identifier_of r ≡ declared t s) where
  has_it : Has s t
  has_it = layout_has t s (well_whole t w) h

  -- the list is as it was
  pub list_with : (u : ℕ) → declared (with_record s r t) u ≡ declared t u
  list_with u = declared_with s r t has_it l i u

  pub well_with : record_good r ≡ true → well_made (with_record s r t) ≡ true
  well_with g =
      let n : streams_of (with_record s r t) ≡ streams_of t = streams_with s r t has_it l in
      well_from (with_record s r t)
      (rw (n, with_length s r t has_it l) (well_whole t w))
      (rw n (list_same (streams_of t) (declared (with_record s r t)) (declared t) (λ u k. list_with u) ∙ well_list t w))
      (λ u k.
      ⊎_elim (λ (e : u ≡ s). rw (e, record_with s r t has_it l) g)
      (λ (o : u ≡ s → ⊥). rw (record_with_other s r t has_it l u o) (well_record t w u (rw n at k))) (same_or_not u s))

-- ---- the tests as a program makes them

-- the record is lent from its place on
pub record_lent : (t : List ℕ) (s at : ℕ) → at ≡ base s → take (at + record_words - at) (drop at t) ≡ record_at s t
unfolding record_at
record_lent t s at e = seen at (at + record_words) record_words t refl ∙ ap (λ (a : ℕ). part a record_words t) e

-- r is the record that was lent
module _ (t r : List ℕ) (s : ℕ) (e : r ≡ record_at s t) where
  pub record_long : Has s t → length r ≡ record_words
  record_long h = ap length e ∙ record_length s t h

  pub record_tested : (b : Bool) → b ≡ record_good r → b ≡ record_good_at t s
  unfolding record_good_at
  record_tested b h = h ∙ ap record_good e

-- n is S, m the words of its layout, and l the answer to its list
module _ (t : List ℕ) (n m : ℕ) (e : n ≡ streams_of t) (f : m ≡ layout_words n) where
  pub well_short : length t < m → false ≡ well_made t
  unfolding well_made
  well_short h = rw (sym e, ← f, lt-leb m (length t) h)

  module _ (l : Bool) (h : m ≤ length t) (g : l ≡ list_good n (spaced 1 record_words t)) where
    pub well_unlisted : not l ≡ true → false ≡ well_made t
    unfolding well_made
    well_unlisted o = rw (sym e, ← f, le-leb m (length t) h, ← g, not-true l o)

    pub well_all : (b : Bool) → not l ≡ false → b ≡ all n (record_good_at t) → b ≡ well_made t
    unfolding well_made
    well_all b o r = rw (sym e, ← f, le-leb m (length t) h, ← g, not-false l o) r

-- a list that was passed is short
pub listed_few : (l : Bool) (n : ℕ) (id : ℕ → ℕ) → l ≡ list_good n id → not l ≡ false → n ≤ 32
listed_few l n id g o = (list_of n id (sym g ∙ not-false l o)).few

pub layout_there : (t : List ℕ) (n m : ℕ) → m ≡ layout_words n → m ≤ length t → base n ≤ length t
layout_there t n m f h = omega arith
