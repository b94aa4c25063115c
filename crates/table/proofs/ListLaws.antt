-- Lists of identifiers, and their choices. The idea: `list_good` says what `GoodList` says in facts (`list_of`, `of_list`), and looks at the identifiers alone,
-- not where they stand (`list_same`); so does the stream of an identifier (`stream_same`).
use Rattle.words.proofs.Kit.{◌≡◌, refl, sym, ap, ◌∙◌, Bool, true, false, not, ⊎_elim, List, ℕ, ◌+◌, ◌*◌, ◌≤◌, ◌<◌, arith, eq-eqb, ne_eqb, eqb-true, le-leb}
use Rattle.words.proofs.Kit.{not-true, eqb, leb, length, get_or}
use native.Mathlib.Nat.{mul-le-mul_left, mul-suc, zero-add, one-mul, le_of_lt}
use borrow.Author.Tests.{leb-true, eqb-false}
use Rattle.words.specs.Tests.{both}
use Rattle.words.specs.All.{all}
use Rattle.words.proofs.Cases.{le_or_lt, both_left, both_right, both_true}
use Rattle.words.proofs.AllLaws.{all_none, all_more, all_fails, all_at, all_intro, all_same, First, first_is, first_one}
use Rattle.record.specs.Good.{choice_good}
use Rattle.record.proofs.GoodLaws.{choice_made, choice_over, choice_most}
use Rattle.table.specs.Layout.{streams_of}
use Rattle.table.specs.Identifiers.{spaced, listed, declared, apart, list_good, choices_good, stream_of}
use Rattle.table.specs.Well.{GoodList}
use Rattle.table.proofs.TestLaws.{test_ended}

-- ---- identifiers at equal distances

pub spaced_before : (first step u s l : ℕ) → first + step * s < l → u < s → first + step * u < l
spaced_before first step u s l g h = omega (arith, mul-le-mul_left step (le_of_lt h))

pub spaced_inside : (first step s n l : ℕ) → 1 ≤ step → s < n → first + step * n ≤ l → first + step * s < l
spaced_inside first step s n l o h g = omega (arith, mul-le-mul_left step h, mul-suc step s)

-- ---- the loop that looks for an identifier among those before it

-- none stands before the first
pub first_apart : (id : ℕ → ℕ) → all 1 (apart id) ≡ true
unfolding apart
first_apart id = all_more (apart id) 0 (all_none (apart id)) (all_none _)

-- the identifier of u is not that of s
unfoldable pub others : (ℕ → ℕ) → ℕ → ℕ → Bool
others id s u = not (eqb (id u) (id s))

module _ (id : ℕ → ℕ) (s u mine : ℕ) (e : mine ≡ id s) where
  pub apart_more : all u (others id s) ≡ true → (id u ≡ mine → ⊥) → all (u + 1) (others id s) ≡ true
  unfolding others
  apart_more a n = all_more (others id s) u a (ap not (ne_eqb (id u) (id s) (λ i. n (i ∙ sym e))))

  pub apart_twice : u < s → id u ≡ mine → false ≡ apart id s
  unfolding apart others
  apart_twice h i = sym (all_fails (others id s) s u h (ap not (eq-eqb (id u) (id s) (i ∙ e))))

pub apart_ended : (id : ℕ → ℕ) (s u : ℕ) → all u (others id s) ≡ true → u ≤ s → s ≤ u → true ≡ apart id s
unfolding apart others
apart_ended id s u a h g = test_ended (others id s) s u a h g

-- ---- the test as facts

pub list_of : (n : ℕ) (id : ℕ → ℕ) → list_good n id ≡ true → GoodList n id
unfolding list_good apart
list_of n id e =
    let r = both_right (leb 1 n) (both (leb n 32) (all n (apart id))) e in
    record {
      some = leb-true 1 n (both_left (leb 1 n) (both (leb n 32) (all n (apart id))) e);
      few = leb-true n 32 (both_left (leb n 32) (all n (apart id)) r);
      apart = λ u s h g f.
          eqb-false (id u) (id s)
          (not-true _ (all_at (λ v. not (eqb (id v) (id s))) s u h (all_at (apart id) n s g (both_right (leb n 32) (all n (apart id)) r)))) f;
    }

pub of_list : (n : ℕ) (id : ℕ → ℕ) → GoodList n id → list_good n id ≡ true
unfolding list_good apart
of_list n id g =
    both_true _ _ (le-leb 1 n g.some)
    (both_true _ _ (le-leb n 32 g.few) (all_intro (apart id) n (λ s h. all_intro _ s (λ u k. ap not (ne_eqb (id u) (id s) (g.apart u s k h))))))

-- the same identifiers
pub list_same : (n : ℕ) (id other : ℕ → ℕ) → ((s : ℕ) → s < n → id s ≡ other s) → list_good n id ≡ list_good n other
unfolding list_good apart
list_same n id other e =
    ap (λ (t : Bool). both (leb 1 n) (both (leb n 32) t))
    (all_same (apart id) (apart other) n (λ s h. all_same _ _ s (λ u k. rw (e u (omega arith), e s h))))

-- a list whose identifiers stand one after the other
pub list_next : (ids : List ℕ) → list_good (length ids) (spaced 0 1 ids) ≡ list_good (length ids) (listed ids)
list_next ids = list_same (length ids) (spaced 0 1 ids) (listed ids) (λ s h. ap (λ (i : ℕ). get_or ids i 0) (zero-add (1 * s) ∙ one-mul s))

-- ---- the choices

-- the choice of identifier s is 0 or 1
abbrev pub chosen : List ℕ → ℕ → Bool
chosen choices s = choice_good (get_or choices s 0)

module _ (n : ℕ) (choices : List ℕ) where
  -- in facts: as many as identifiers, and each at most 1
  pub choices_many : choices_good n choices ≡ true → length choices ≡ n
  unfolding choices_good
  choices_many e = eqb-true (length choices) n (both_left (eqb (length choices) n) (all n (chosen choices)) e)

  pub choices_most : choices_good n choices ≡ true → (s : ℕ) → s < n → get_or choices s 0 ≤ 1
  unfolding choices_good
  choices_most e s h =
      choice_most (get_or choices s 0) (all_at (chosen choices) n s h (both_right (eqb (length choices) n) (all n (chosen choices)) e))

  -- as a program asks: the choices before s are good
  pub choices_unlike : (length choices ≡ n → ⊥) → false ≡ choices_good n choices
  unfolding choices_good
  choices_unlike o = rw (ne_eqb (length choices) n o)

  pub choices_fail : (s : ℕ) → length choices ≡ n → s < n → 1 < get_or choices s 0 → false ≡ choices_good n choices
  unfolding choices_good
  choices_fail s l h g = rw (eq-eqb (length choices) n l) (sym (all_fails (chosen choices) n s h (choice_over (get_or choices s 0) g)))

  pub choices_turn : (s : ℕ) → all s (chosen choices) ≡ true → get_or choices s 0 ≤ 1 → all (s + 1) (chosen choices) ≡ true
  choices_turn s a g = all_more (chosen choices) s a (choice_made (get_or choices s 0) g)

  pub choices_end : (s : ℕ) → length choices ≡ n → all s (chosen choices) ≡ true → s ≤ n → n ≤ s → true ≡ choices_good n choices
  unfolding choices_good
  choices_end s l a h g = rw (eq-eqb (length choices) n l) (test_ended (chosen choices) n s a h g)

-- ---- the stream of an identifier

-- one more is not it
pub none_more : (t : List ℕ) (identifier s : ℕ) → ((i : ℕ) → i < s → eqb (declared t i) identifier ≡ false) → eqb (declared t s) identifier ≡ false
    → (i : ℕ) → i < s + 1 → eqb (declared t i) identifier ≡ false
none_more t identifier s b e i h = ⊎_elim (λ (g : s ≤ i). let k : i ≡ s = omega arith in rw k e) (λ (g : i < s). b i g) (le_or_lt s i)

module _ (t : List ℕ) (identifier s n : ℕ) (e : n ≡ streams_of t) (before : (i : ℕ) → i < s → eqb (declared t i) identifier ≡ false) where
  pub stream_found : s < n → declared t s ≡ identifier → s ≡ stream_of identifier t
  unfolding stream_of
  stream_found h i =
      first_one (streams_of t) s _ (record { most = omega arith; passes = λ _. eq-eqb (declared t s) identifier i; before = before })

  pub stream_none : s ≡ n → n ≡ stream_of identifier t
  unfolding stream_of
  stream_none i = rw i at
      (first_one (streams_of t) s (λ u. eqb (declared t u) identifier) (record { most = omega arith; passes = λ g. absurd (omega arith); before = before }))

-- what it is: one of the list where it is below S
pub stream_is : (identifier : ℕ) (t : List ℕ) → First (streams_of t) (λ s. eqb (declared t s) identifier) (stream_of identifier t)
unfolding stream_of
stream_is identifier t = first_is (streams_of t) (λ s. eqb (declared t s) identifier)

-- the identifiers of a list stand once, so each has its own place
pub stream_own : (t : List ℕ) (s : ℕ) → GoodList (streams_of t) (declared t) → s < streams_of t → stream_of (declared t s) t ≡ s
stream_own t s g h =
    sym (stream_found t (declared t s) s (streams_of t) refl (λ i k. ne_eqb (declared t i) (declared t s) (g.apart i s k h)) h refl)

-- it looks at the identifiers alone
pub stream_same : (identifier : ℕ) (t u : List ℕ) → streams_of t ≡ streams_of u → ((s : ℕ) → s < streams_of u → declared t s ≡ declared u s)
    → stream_of identifier t ≡ stream_of identifier u
unfolding stream_of
stream_same identifier t u n e =
    let q = stream_is identifier t in
    first_one (streams_of u) (stream_of identifier t) (λ s. eqb (declared u s) identifier)
    (record {
      most = omega (arith, q.most);
      passes = λ h. ap (λ (i : ℕ). eqb i identifier) (sym (e _ h)) ∙ q.passes (omega arith);
      before = λ i h. ap (λ (m : ℕ). eqb m identifier) (sym (e i (omega (arith, q.most)))) ∙ q.before i h;
    })
