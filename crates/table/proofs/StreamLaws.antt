-- A stream's number: what is refused of it, and what is known where nothing is; and whether 49A is chosen for an identifier. The idea: each test of the program
-- is a line of the list; where none applies the table is well made and has the stream's record. `surveyed` is the choice of the identifier's record where it is
-- declared, and looks at the list and the choices alone (`surveyed_same`).
use Rattle.words.proofs.Kit.{◌≡◌, refl, sym, ap, ◌∙◌, Bool, true, false, not, ⊎_elim, List, ℕ, ◌≤◌, ◌<◌, arith, le-leb, lt-leb, le-ltb, lt-ltb, not-true}
use Rattle.words.proofs.Kit.{not-false, eqb}
use borrow.Author.Tests.{leb-false}
use Rattle.words.specs.Numbers.{TABLE, STREAM}
use Rattle.words.specs.Outcome.{refused, accepted}
use Rattle.words.proofs.Cases.{le_or_lt}
use Rattle.words.proofs.RefusalLaws.{first_passed}
use Rattle.record.specs.Layout.{choice_of}
use Rattle.table.specs.Layout.{streams_of, Has, record_at}
use Rattle.table.specs.Identifiers.{declared, stream_of, surveyed}
use Rattle.table.specs.Well.{well_made, GoodList}
use Rattle.table.specs.Stream.{stream_number_list}
use Rattle.table.specs.inner.Checked.{stream_checks}
use Rattle.table.proofs.ListLaws.{stream_own, stream_same}
use Rattle.table.proofs.WellLaws.{layout_has, well_whole, well_few}

-- ---- as a program asks: w is the answer of `well_made`, and n is S
module _ (t : List ℕ) (s : ℕ) (w : Bool) (e : w ≡ well_made t) where
  pub stream_ill : not w ≡ true → refused TABLE ≡ stream_checks t s
  unfolding stream_checks
  stream_ill i = rw (← e, not-true w i)

  module _ (n : ℕ) (i : not w ≡ false) (f : n ≡ streams_of t) where
    pub stream_over : n ≤ s → refused STREAM ≡ stream_checks t s
    unfolding stream_checks
    stream_over h = rw (← e, not-false w i, ← f, le-leb n s h)

    pub stream_fine : s < n → accepted tt ≡ stream_checks t s
    unfolding stream_checks
    stream_fine h = rw (← e, not-false w i, ← f, lt-leb n s h)

-- ---- in facts
module _ (t : List ℕ) (s : ℕ) (e : stream_checks t s ≡ accepted tt) where
  pub stream_well : well_made t ≡ true
  unfolding stream_checks
  stream_well = not-false (well_made t) (first_passed (stream_number_list t s) _ tt e).0.0

  pub stream_below : s < streams_of t
  unfolding stream_checks
  stream_below = leb-false (streams_of t) s (first_passed (stream_number_list t s) _ tt e).0.1.0

  pub stream_few : s < 32
  stream_few = omega (arith, stream_below, well_few t stream_well)

  pub stream_has : Has s t
  stream_has = layout_has t s (well_whole t stream_well) stream_below

-- ---- the same of what the check accepted
module _ (t : List ℕ) (s : ℕ) (e : accepted tt ≡ stream_checks t s) where
  pub checked_few : s < 32
  checked_few = stream_few t s (sym e)

  pub checked_has : Has s t
  checked_has = stream_has t s (sym e)

-- ---- whether 49A is chosen for an identifier

-- s is its stream: the choice of the stream's record where it is declared, and else not
module _ (identifier : ℕ) (t : List ℕ) (s : ℕ) (e : s ≡ stream_of identifier t) where
  pub surveyed_at : s < streams_of t → surveyed identifier t ≡ eqb (choice_of (record_at s t)) 1
  unfolding surveyed
  surveyed_at h = rw (← e, lt-ltb s (streams_of t) h)

  pub surveyed_none : streams_of t ≤ s → surveyed identifier t ≡ false
  unfolding surveyed
  surveyed_none h = rw (← e, le-ltb s (streams_of t) h)

pub surveyed_other : (identifier : ℕ) (t : List ℕ) → streams_of t ≤ stream_of identifier t → surveyed identifier t ≡ false
surveyed_other identifier t h = surveyed_none identifier t (stream_of identifier t) refl h

-- an identifier of the list
pub surveyed_of : (t : List ℕ) (s : ℕ) → GoodList (streams_of t) (declared t) → s < streams_of t
    → surveyed (declared t s) t ≡ eqb (choice_of (record_at s t)) 1
surveyed_of t s g h = surveyed_at (declared t s) t s (sym (stream_own t s g h)) h

-- two tables of the same list and the same choices
pub surveyed_same : (identifier : ℕ) (t u : List ℕ) → streams_of t ≡ streams_of u → ((s : ℕ) → s < streams_of u → declared t s ≡ declared u s)
    → ((s : ℕ) → s < streams_of u → choice_of (record_at s t) ≡ choice_of (record_at s u)) → surveyed identifier t ≡ surveyed identifier u
surveyed_same identifier t u n e c =
    let s : ℕ = stream_of identifier u in
    let same : s ≡ stream_of identifier t = sym (stream_same identifier t u n e) in
    ⊎_elim
    (λ (h : streams_of u ≤ s). surveyed_none identifier t s same (omega arith) ∙ sym (surveyed_other identifier u h))
    (λ (h : s < streams_of u).
    surveyed_at identifier t s same (omega arith) ∙ ap (λ (k : ℕ). eqb k 1) (c s h) ∙ sym (surveyed_at identifier u s refl h))
    (le_or_lt (streams_of u) s)
