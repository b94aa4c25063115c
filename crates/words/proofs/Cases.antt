-- Definitions that go by tests: the rule set for `search`, case splits, tests joined, and what an accepted answer says.
use Rattle.words.proofs.Kit.{◌≡◌, refl, sym, Bool, true, false, not, List, [], ◌∷◌, ⊎_elim, ℕ, zero, suc, ◌≤◌, ◌<◌, arith, rules, lt-ltb}
use Rattle.words.proofs.Kit.{le-ltb, le-leb, lt-leb, eq-eqb, ne_eqb, eqb-true, eqb}
use mathlib.Core.Logic.{◌⊎◌, inl, inr}
use Prim.Native.Nat.{zero-le, suc-le-suc}
use native.Mathlib.Nat.{le_refl}
use borrow.Author.Tests.{eqb-false}
use Rattle.words.specs.Tests.{pick, when, both, same_words}
use Rattle.words.specs.Outcome.{Outcome, Reply, refused, accepted, onward}

-- for `search`: `search cases` closes most returns of a function that goes by tests on numbers
pub ruleset cases = (rules, eq-eqb, ne_eqb, lt-ltb, le-ltb, le-leb, lt-leb)

-- ---- splits
pub le_or_lt : (a b : ℕ) → (a ≤ b) ⊎ (b < a)
le_or_lt zero b = inl zero-le
le_or_lt (suc a) zero = inr (suc-le-suc zero-le)
le_or_lt (suc a) (suc b) = ⊎_elim (λ p. inl (suc-le-suc p)) (λ q. inr (suc-le-suc q)) (le_or_lt a b)

pub true_or_false : (t : Bool) → (t ≡ true) ⊎ (t ≡ false)
true_or_false true = inl refl
true_or_false false = inr refl

pub same_or_not : (a b : ℕ) → (a ≡ b) ⊎ (a ≡ b → ⊥)
same_or_not a b = ⊎_elim (λ e. inl (eqb-true a b e)) (λ e. inr (eqb-false a b e)) (true_or_false (eqb a b))

pub true_is_false : true ≡ false → ⊥
true_is_false e = let z : ◌≡◌ {A = ℕ} 0 1 = cc in omega arith

-- two tests that hold together are the same
pub same_test : (a b : Bool) → (a ≡ true → b ≡ true) → (b ≡ true → a ≡ true) → a ≡ b
same_test true b there back = sym (there refl)
same_test false true there back = back refl
same_test false false there back = refl

-- ---- tests joined
pub both_left : (a b : Bool) → both a b ≡ true → a ≡ true
both_left true b e = refl
both_left false b e = e

pub both_right : (a b : Bool) → both a b ≡ true → b ≡ true
both_right true b e = e
both_right false b e = absurd (true_is_false (cc))

pub both_true : (a b : Bool) → a ≡ true → b ≡ true → both a b ≡ true
both_true a b e f = rw e f

pub both_yes : (a : Bool) → both a true ≡ a
both_yes true = refl
both_yes false = refl

pub both_twice : (a b : Bool) → both (both a b) b ≡ both a b
both_twice true true = refl
both_twice true false = refl
both_twice false b = refl

pub both_no : (a : Bool) → both a false ≡ false
both_no true = refl
both_no false = refl

pub both_assoc : (a b c : Bool) → both (both a b) c ≡ both a (both b c)
both_assoc true b c = refl
both_assoc false b c = refl

-- ---- lists that are the same, word for word
pub same_words_lem : (xs ys : List ℕ) → same_words xs ys ≡ true → xs ≡ ys
unfolding same_words
same_words_lem [] [] e = refl
same_words_lem [] (y ∷ ys) e = absurd (true_is_false (cc))
same_words_lem (x ∷ xs) [] e = absurd (true_is_false (cc))
same_words_lem (x ∷ xs) (y ∷ ys) e =
    let first : x ≡ y = eqb-true x y (both_left (eqb x y) (same_words xs ys) e) in
    let rest : xs ≡ ys = same_words_lem xs ys (both_right (eqb x y) (same_words xs ys) e) in
    cc

pub words_same : (xs : List ℕ) → same_words xs xs ≡ true
unfolding same_words
words_same [] = refl
words_same (x ∷ xs) = both_true (eqb x x) (same_words xs xs) (eq-eqb x x refl) (words_same xs)

-- neither of two tests holds
pub neither : (a b : Bool) → pick a true b ≡ false → (a ≡ false) × (b ≡ false)
neither true b e = absurd (true_is_false e)
neither false b e = (refl, e)

-- two tests agree
pub agreed : (a b : Bool) → pick a b (not b) ≡ true → a ≡ b
agreed true true e = refl
agreed true false e = sym e
agreed false true e = e
agreed false false e = refl

-- ---- a test that does not matter, and one that matters only where another holds
pub pick_same : {A : Type 0} (t : Bool) (a : A) → pick t a a ≡ a
pick_same true a = refl
pick_same false a = refl

pub pick_true : (t a : Bool) → (t ≡ true → a ≡ true) → pick t a true ≡ true
pick_true true a f = f refl
pick_true false a f = refl

-- ---- an optional number
pub when_most : (t : Bool) (n : ℕ) → when t n ≤ n
when_most true n = le_refl n
when_most false n = zero-le

-- ---- answers

-- an accepted answer where a refusal is a number: `accepted` alone leaves open what a refusal says
abbrev pub answered : {A : Type 0} → A → Outcome A
answered a = accepted a

module _ {R A : Type 0} where
  -- the answer before an accepted rest was accepted
  pub onward_passed : {B : Type 0} (o : Reply R B) (rest : B → Reply R A) (a : A) → onward o rest ≡ accepted a
      → (b : B) × (o ≡ accepted b) × (rest b ≡ accepted a)
  onward_passed (refused n) rest a e = let z : ◌≡◌ {A = ℕ} 0 1 = cc in absurd (omega arith)
  onward_passed (accepted b) rest a e = (b, refl, e)

  -- an accepted answer has one value
  pub accepted_same : {a b : A} → ◌≡◌ {A = Reply R A} (accepted a) (accepted b) → a ≡ b
  accepted_same e = cc
