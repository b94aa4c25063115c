-- Lists of refusals. The idea: an accepted answer passed every test of its list (`first_passed`), and where every test is passed the answer is what follows the
-- list (`none_given`); checks one after the other are lists one after the other (`after_first`, `onward_first`).
use Rattle.words.proofs.Kit.{◌≡◌, refl, sym, ap, ◌∙◌, Bool, true, false, [], ◌∷◌, ℕ, arith}
use Rattle.words.specs.Tests.{pick, either}
use Rattle.words.specs.Outcome.{Outcome, refused, accepted, after, onward}
use Rattle.words.specs.Refusals.{Refusals, first_given}
use Rattle.words.proofs.Cases.{true_is_false}

-- ---- tests that were passed

-- none of a list applies
abbrev pub None : Refusals → Type 0
None [] = Unit
None (r ∷ rs) = (r.1 ≡ false) × None rs

pub either_passed : (a b : Bool) → either a b ≡ false → (a ≡ false) × (b ≡ false)
either_passed true b e = absurd (true_is_false e)
either_passed false b e = (refl, e)

module _ {A : Type 0} where
  pick_passed : (t : Bool) (n : ℕ) (o : Outcome A) (a : A) → pick t (refused n) o ≡ accepted a → (t ≡ false) × (o ≡ accepted a)
  pick_passed true n o a e = let z : ◌≡◌ {A = ℕ} 0 1 = cc in absurd (omega arith)
  pick_passed false n o a e = (refl, e)

  pub first_passed : (rs : Refusals) (o : Outcome A) (a : A) → first_given rs o ≡ accepted a → None rs × (o ≡ accepted a)
  first_passed [] o a e = (tt, e)
  first_passed (r ∷ rs) o a e =
      let p = pick_passed r.1 r.0 (first_given rs o) a e in
      let q = first_passed rs o a p.1 in
      ((p.0, q.0), q.1)

  pub none_given : (rs : Refusals) (o : Outcome A) → None rs → first_given rs o ≡ o
  none_given [] o h = refl
  none_given (r ∷ rs) o h = rw h.0 (none_given rs o h.1)

  -- what follows a test, or a list, matters only where it is passed
  pick_same : (t : Bool) (x o p : Outcome A) → (t ≡ false → o ≡ p) → pick t x o ≡ pick t x p
  pick_same true x o p e = refl
  pick_same false x o p e = e refl

  pub first_same : (rs : Refusals) (o p : Outcome A) → (None rs → o ≡ p) → first_given rs o ≡ first_given rs p
  first_same [] o p f = f tt
  first_same (r ∷ rs) o p f = pick_same r.1 (refused r.0) (first_given rs o) (first_given rs p) (λ t. first_same rs o p (λ h. f (t, h)))

-- ---- the number of a refusal

-- what each number of a list is, and the number of an answer that is a refusal
abbrev pub Numbers : (ℕ → Type 0) → Refusals → Type 0
Numbers P [] = Unit
Numbers P (r ∷ rs) = P r.0 × Numbers P rs

abbrev pub Numbered : {A : Type 0} → (ℕ → Type 0) → Outcome A → Type 0
Numbered P (refused n) = P n
Numbered P (accepted a) = Unit

module _ {A : Type 0} (P : ℕ → Type 0) where
  pick_numbered : (t : Bool) (n : ℕ) (o : Outcome A) → P n → Numbered P o → Numbered P (pick t (refused n) o)
  pick_numbered true n o h l = h
  pick_numbered false n o h l = l

  -- it is one of its list
  pub number_among : (rs : Refusals) (o : Outcome A) → Numbers P rs → Numbered P o → Numbered P (first_given rs o)
  number_among [] o h l = l
  number_among (r ∷ rs) o h l = pick_numbered r.1 r.0 (first_given rs o) h.0 (number_among rs o h.1 l)

-- ---- lists one after the other

-- what a list gives, and then the rest
module _ {A B : Type 0} where
  onward_pick : (t : Bool) (n : ℕ) (o : Outcome B) (rest : B → Outcome A) → onward (pick t (refused n) o) rest ≡ pick t (refused n) (onward o rest)
  onward_pick true n o rest = refl
  onward_pick false n o rest = refl

  pub onward_first : (rs : Refusals) (b : B) (rest : B → Outcome A) → onward (first_given rs (accepted b)) rest ≡ first_given rs (rest b)
  onward_first [] b rest = refl
  onward_first (r ∷ rs) b rest =
      onward_pick r.1 r.0 (first_given rs (accepted b)) rest ∙ ap (pick r.1 (refused r.0)) (onward_first rs b rest)

  after_onward : (o : Outcome B) (rest : Outcome A) → after o rest ≡ onward o (λ _. rest)
  after_onward (refused n) rest = refl
  after_onward (accepted b) rest = refl

  pub after_first : (rs : Refusals) (b : B) (rest : Outcome A) → after (first_given rs (accepted b)) rest ≡ first_given rs rest
  after_first rs b rest = after_onward (first_given rs (accepted b)) rest ∙ onward_first rs b (λ _. rest)

  -- what a list refuses does not depend on what follows it
  pub first_refused : (rs : Refusals) (b : B) (n : ℕ) (rest : Outcome A) → first_given rs (accepted b) ≡ refused n → first_given rs rest ≡ refused n
  first_refused rs b n rest e = sym (after_first rs b rest) ∙ ap (λ (o : Outcome B). after o rest) e

  -- where a list refuses nothing, what follows it is the answer
  pub first_fine : (rs : Refusals) (b c : B) (rest : Outcome A) → first_given rs (accepted b) ≡ accepted c → first_given rs rest ≡ rest
  first_fine rs b c rest e = none_given rs rest (first_passed rs (accepted b) c e).0

-- ---- which of a list is given

-- what each number of a list is, where its own test holds and none before it did
abbrev pub Rows : (ℕ → Type 0) → Refusals → Type 0
Rows P [] = Unit
Rows P (r ∷ rs) = (r.1 ≡ true → P r.0) × (r.1 ≡ false → Rows P rs)

infixr 4 ◌else◌
abbrev pub ◌else◌ : {A B : Type 0} → A → B → A × B
a else b = (a, b)

module _ {A : Type 0} (P : ℕ → Type 0) where
  row_pick : (t : Bool) (n m : ℕ) (o : Outcome A) → (t ≡ true → P m) → (t ≡ false → o ≡ refused n → P n) → pick t (refused m) o ≡ refused n → P n
  row_pick true n m o h l e = let i : m ≡ n = cc in rw i at (h refl)
  row_pick false n m o h l e = l refl e

  pub row_given : (rs : Refusals) (a : A) (n : ℕ) → Rows P rs → first_given rs (accepted a) ≡ refused n → P n
  row_given [] a n h e = let z : ◌≡◌ {A = ℕ} 0 1 = cc in absurd (omega arith)
  row_given (r ∷ rs) a n h e = row_pick r.1 n r.0 (first_given rs (accepted a)) h.0 (λ f g. row_given rs a n (h.1 f) g) e
