-- Two answers that meet one promise are equal. The idea: `paper` has a left inverse, `back`, so an answer is what `back` makes of the promise.
use Rattle.std.specs.Prelude.{Result, Ok, Err}
use Rattle.words.proofs.Kit.{◌≡◌, refl, sym, ap, ◌∙◌, ℕ, eqb}
use Rattle.words.specs.declared.refusals.Refusal.{Refusal}
use Rattle.words.specs.declared.refusals.Refusal.TheVariants as refusals
use Rattle.words.specs.declared.RefusedAt.{RefusedAt}
use Rattle.words.specs.Numbers.{EMPTY, TYPE, BITS, SHORT, CUT, CLASS, TIME, INDICATOR, LAYOUT, FIELD, STREAM, LIST, ROOM, VALUE, SIZE, FORMAT, COUNT}
use Rattle.words.specs.Numbers.{TABLE, PAGE, PAD}
use Rattle.words.specs.Tests.{pick}
use Rattle.words.specs.Listed.{list_number, on_paper, on_paper_as}
use Rattle.words.specs.Told.{Told, told_paper}
use Rattle.words.specs.Outcome.{Outcome, Reply, refused, accepted, Done, Meets}

pub once {ℓ ℓ'} : {A : Type ℓ} {B : Type ℓ'} (paper : A → B) (back : B → A) → ((a : A) → back (paper a) ≡ a)
    → {want : B} {a b : A} → paper a ≡ want → paper b ≡ want → a ≡ b
once paper back left {want} {a} {b} p q = sym (left a) ∙ ap back (p ∙ sym q) ∙ left b

-- and the buffer that the call was lent
pub meets_once : {R A B L : Type 0} (paper : A → Reply R B) (back : Reply R B → A) → ((a : A) → back (paper a) ≡ a)
    → {want : Reply R (Done B L)} {before after after' : L} {r s : A} → Meets paper want before r after → Meets paper want before s after'
    → (r ≡ s) × (after ≡ after')
meets_once paper back left p q = (once paper back left p.answer q.answer, p.buffer ∙ sym q.buffer)

-- ---- results

refusal_back : ℕ → Refusal
refusal_back n =
    pick (eqb n EMPTY) refusals.Empty (pick (eqb n TYPE) refusals.Kind (pick (eqb n BITS) refusals.Bits (pick (eqb n SHORT) refusals.Short
    (pick (eqb n CUT) refusals.Cut (pick (eqb n CLASS) refusals.Class (pick (eqb n TIME) refusals.Time (pick (eqb n INDICATOR) refusals.Indicator
    (pick (eqb n LAYOUT) refusals.Layout (pick (eqb n FIELD) refusals.Field (pick (eqb n STREAM) refusals.Stream (pick (eqb n LIST) refusals.List
    (pick (eqb n ROOM) refusals.Room (pick (eqb n VALUE) refusals.Value (pick (eqb n SIZE) refusals.Size (pick (eqb n FORMAT) refusals.Format
    (pick (eqb n COUNT) refusals.Count (pick (eqb n TABLE) refusals.Table (pick (eqb n PAGE) refusals.Page (pick (eqb n PAD) refusals.Pad
    refusals.Place)))))))))))))))))))

refusal_back_lem : (r : Refusal) → refusal_back (list_number r) ≡ r
unfolding refusal_back
refusal_back_lem refusals.Empty = refl
refusal_back_lem refusals.Kind = refl
refusal_back_lem refusals.Bits = refl
refusal_back_lem refusals.Short = refl
refusal_back_lem refusals.Cut = refl
refusal_back_lem refusals.Class = refl
refusal_back_lem refusals.Time = refl
refusal_back_lem refusals.Indicator = refl
refusal_back_lem refusals.Layout = refl
refusal_back_lem refusals.Field = refl
refusal_back_lem refusals.Stream = refl
refusal_back_lem refusals.List = refl
refusal_back_lem refusals.Room = refl
refusal_back_lem refusals.Value = refl
refusal_back_lem refusals.Size = refl
refusal_back_lem refusals.Format = refl
refusal_back_lem refusals.Count = refl
refusal_back_lem refusals.Table = refl
refusal_back_lem refusals.Page = refl
refusal_back_lem refusals.Pad = refl
refusal_back_lem refusals.Place = refl

-- two refusals of one number are the same
pub number_once : {n : ℕ} {r s : Refusal} → list_number r ≡ n → list_number s ≡ n → r ≡ s
number_once = once list_number refusal_back refusal_back_lem

module _ {A : Type 0} where
  paper_back : Outcome A → Result A Refusal
  paper_back (refused n) = Err (refusal_back n)
  paper_back (accepted a) = Ok a

  paper_back_lem : (r : Result A Refusal) → paper_back (on_paper r) ≡ r
  unfolding paper_back
  paper_back_lem (Ok a) = refl
  paper_back_lem (Err r) = ap Err (refusal_back_lem r)

  pub on_paper_once : {want : Outcome A} {r s : Result A Refusal} → on_paper r ≡ want → on_paper s ≡ want → r ≡ s
  on_paper_once = once on_paper paper_back paper_back_lem

  pub on_paper_meets_once : {L : Type 0} {want : Outcome (Done A L)} {before after after' : L} {r s : Result A Refusal}
      → Meets on_paper want before r after → Meets on_paper want before s after' → (r ≡ s) × (after ≡ after')
  on_paper_meets_once = meets_once on_paper paper_back paper_back_lem

  told_back : Told A → Result A RefusedAt
  told_back (refused r) = Err (record { refusal = refusal_back r.number; place = r.place })
  told_back (accepted a) = Ok a

  told_back_lem : (r : Result A RefusedAt) → told_back (told_paper r) ≡ r
  unfolding told_back
  told_back_lem (Ok a) = refl
  told_back_lem (Err r) = rw (refusal_back_lem r.refusal)

  pub told_once : {want : Told A} {r s : Result A RefusedAt} → told_paper r ≡ want → told_paper s ≡ want → r ≡ s
  told_once = once told_paper told_back told_back_lem

  pub told_meets_once : {L : Type 0} {want : Told (Done A L)} {before after after' : L} {r s : Result A RefusedAt}
      → Meets told_paper want before r after → Meets told_paper want before s after' → (r ≡ s) × (after ≡ after')
  told_meets_once = meets_once told_paper told_back told_back_lem

-- of values that stand for others; `back` gives what stands for them
module _ {A B : Type 0} (f : A → B) (back : B → A) (left : (a : A) → back (f a) ≡ a) where
  as_back : Outcome B → Result A Refusal
  as_back (refused n) = Err (refusal_back n)
  as_back (accepted b) = Ok (back b)

  as_back_lem : (r : Result A Refusal) → as_back (on_paper_as f r) ≡ r
  unfolding as_back
  as_back_lem (Ok a) = ap Ok (left a)
  as_back_lem (Err r) = ap Err (refusal_back_lem r)

  pub on_paper_as_once : {want : Outcome B} {r s : Result A Refusal} → on_paper_as f r ≡ want → on_paper_as f s ≡ want → r ≡ s
  on_paper_as_once = once (on_paper_as f) as_back as_back_lem
