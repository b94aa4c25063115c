-- Laws of `all`: the start, a turn and the end of a loop that checks, and the readings at one number; and of `first_of`, for a loop that looks for something.
use Rattle.words.proofs.Kit.{◌≡◌, refl, sym, ◌∙◌, Bool, true, false, ⊎_elim, List, ℕ, zero, suc, ◌+◌, ◌≤◌, ◌<◌, arith, eqb-true, lt-ltb}
use Rattle.words.proofs.Kit.{le-ltb, eqb, ltb, get_or}
use native.Mathlib.Nat.{not-suc-le-zero}
use native.Mathlib.Numerals.{add-one}
use Rattle.words.specs.Tests.{pick, both}
use Rattle.words.specs.All.{all, first_of, tabled}
use Rattle.words.proofs.Cases.{le_or_lt, same_or_not, same_test, true_is_false, both_left, both_right, both_no}

-- ---- a loop's start, a turn that passes, its end; one that fails
pub all_none : (f : ℕ → Bool) → all 0 f ≡ true
unfolding all
all_none f = refl

pub all_more : (f : ℕ → Bool) (n : ℕ) → all n f ≡ true → f n ≡ true → all (n + 1) f ≡ true
unfolding all
all_more f n a b = rw (add-one n, a) b

pub all_end : (f : ℕ → Bool) (n i : ℕ) → i ≡ n → all i f ≡ true → all n f ≡ true
all_end f n i e a = rw e at a

pub all_fails : (f : ℕ → Bool) (n i : ℕ) → i < n → f i ≡ false → all n f ≡ false
unfolding all
all_fails f zero i h e = absurd (not-suc-le-zero h)
all_fails f (suc n) i h e =
    ⊎_elim (λ (g : n ≤ i). let k : i ≡ n = omega arith in let d : f n ≡ false = rw k at e in rw d (both_no (all n f)))
    (λ (g : i < n). rw (all_fails f n i g e)) (le_or_lt n i)

-- ---- its readings
pub all_at : (f : ℕ → Bool) (n i : ℕ) → i < n → all n f ≡ true → f i ≡ true
unfolding all
all_at f zero i h a = absurd (not-suc-le-zero h)
all_at f (suc n) i h a =
    ⊎_elim (λ (g : n ≤ i). let k : i ≡ n = omega arith in rw k (both_right (all n f) (f n) a))
    (λ (g : i < n). all_at f n i g (both_left (all n f) (f n) a)) (le_or_lt n i)

-- a table's rule, at each entry by one test that computes
pub tabled_at : (n : ℕ) (xs : List ℕ) (f : ℕ → ℕ) (k : ℕ) → tabled n f xs ≡ true → k < n → get_or xs k 0 ≡ f k
tabled_at n xs f k e h = eqb-true (get_or xs k 0) (f k) (all_at (λ i. eqb (get_or xs i 0) (f i)) n k h e)

pub all_intro : (f : ℕ → Bool) (n : ℕ) → ((i : ℕ) → i < n → f i ≡ true) → all n f ≡ true
unfolding all
all_intro f zero h = refl
all_intro f (suc n) h = rw (all_intro f n (λ i g. h i (omega arith)), h n (omega arith))

pub all_same : (f g : ℕ → Bool) (n : ℕ) → ((i : ℕ) → i < n → f i ≡ g i) → all n f ≡ all n g
unfolding all
all_same f g zero h = refl
all_same f g (suc n) h = rw (all_same f g n (λ i k. h i (omega arith)), h n (omega arith))

-- two tests at each number, and one that can fail at one number alone
both_swapped : (a b c d : Bool) → both (both a b) (both c d) ≡ both (both a c) (both b d)
both_swapped true true c d = refl
both_swapped true false c d = sym (both_no c)
both_swapped false b c d = refl

pub all_both : (f g : ℕ → Bool) (n : ℕ) → all n (λ i. both (f i) (g i)) ≡ both (all n f) (all n g)
unfolding all
all_both f g zero = refl
all_both f g (suc n) = rw (all_both f g n) (both_swapped (all n f) (all n g) (f n) (g n))

pub all_only : (f : ℕ → Bool) (n k : ℕ) → k < n → ((i : ℕ) → (i ≡ k → ⊥) → f i ≡ true) → all n f ≡ f k
all_only f n k h e =
    same_test (all n f) (f k) (all_at f n k h)
    (λ y. all_intro f n (λ i g. ⊎_elim (λ (j : i ≡ k). rw j y) (λ (o : i ≡ k → ⊥). e i o) (same_or_not i k)))

-- ---- the first number that passes

-- it is at most the bound, and passes where it is below
pub record First (n : ℕ) (f : ℕ → Bool) (r : ℕ) : Type 0 where
  pub most : r ≤ n
  pub passes : r < n → f r ≡ true
  pub before : (i : ℕ) → i < r → f i ≡ false

first_step : (t : Bool) (n r : ℕ) (f : ℕ → Bool) → f n ≡ t → First n f r → First (suc n) f (pick (ltb r n) r (pick t n (suc n)))
first_step t n r f e p =
    ⊎_elim
    (λ (h : n ≤ r).
    let i : r ≡ n = omega (arith, p.most) in
    rw (le-ltb r n h) (last t e (rw i at p.before)))
    (λ (h : r < n). rw (lt-ltb r n h) (record { most = omega arith; passes = λ g. p.passes h; before = p.before }))
    (le_or_lt n r)
  where
    last : (t : Bool) → f n ≡ t → ((i : ℕ) → i < n → f i ≡ false) → First (suc n) f (pick t n (suc n))
    last true e b = record { most = omega arith; passes = λ g. e; before = b }
    last false e b = record {
      most = omega arith;
      passes = λ g. absurd (omega arith);
      before = λ i g. ⊎_elim (λ (h : n ≤ i). let k : i ≡ n = omega arith in rw k e) (λ (h : i < n). b i h) (le_or_lt n i);
    }

pub first_is : (n : ℕ) (f : ℕ → Bool) → First n f (first_of n f)
unfolding first_of
first_is zero f = record { most = omega arith; passes = λ g. absurd (omega arith); before = λ i g. absurd (omega arith) }
first_is (suc n) f = first_step (f n) n (first_of n f) f refl (first_is n f)

-- there is one such number
pub first_one : (n r : ℕ) (f : ℕ → Bool) → First n f r → r ≡ first_of n f
first_one n r f p =
    let q = first_is n f in
    ⊎_elim
    (λ (h : r ≤ first_of n f).
    ⊎_elim (λ (g : first_of n f ≤ r). omega arith)
    (λ (g : r < first_of n f). absurd (true_is_false (sym (p.passes (omega (arith, q.most))) ∙ q.before r g))) (le_or_lt (first_of n f) r))
    (λ (h : first_of n f < r). absurd (true_is_false (sym (q.passes (omega (arith, p.most))) ∙ p.before (first_of n f) h)))
    (le_or_lt r (first_of n f))
