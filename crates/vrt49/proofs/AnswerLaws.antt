-- What a call for C tells, by its answer. The idea: there are two ways to return. The call was refused, and nothing is written (`tells_refused`); or it was
-- accepted, and its values are written (`tells_values`). Each is one law over plain variables, and one more for a call that is lent buffers, of which the call
-- inside has said what it leaves in them (`beside_..`).
use Rattle.std.specs.Prelude.{Result, Ok, Err}
use Rattle.words.proofs.Kit.{◌≡◌, refl, sym, ◌∙◌, ℕ}
use Rattle.words.specs.declared.RefusedAt.{RefusedAt}
use Rattle.words.specs.declared.refusals.Refusal.{Refusal}
use Rattle.words.specs.Listed.{list_number, on_paper}
use Rattle.words.specs.Outcome.{Outcome, refused, accepted, number_of, Done, said_of, left_of, Meets}
use Rattle.words.specs.Told.{RefusalTold, Told, refusal, told_paper}
use Rattle.words.proofs.MeetLaws.{said_refused, meets_accepted}
use Rattle.vrt49.specs.Answers.{Tells, number_for, in_number, plain, left, beside}

module _ {A L : Type 0} (values : A → L) (want : Outcome A) (before : L) where
  pub tells_refused : (k : ℕ) → want ≡ refused k → Tells values want before k before
  tells_refused k e = rw e (record { number = refl; places = refl })

  pub tells_values : (a : A) (after : L) → want ≡ accepted a → after ≡ values a → Tells values want before 0 after
  tells_values a after e f = rw (e, f) (record { number = refl; places = refl })

-- the same of what the call inside answered: n is the number of its refusal, k what it was turned into
module _ {A L : Type 0} (values : A → L) (want : Outcome A) (before : L) where
  pub tells_number : (n k : ℕ) → refused n ≡ want → k ≡ n → Tells values want before k before
  tells_number n k e f = rw (← e, f) (record { number = refl; places = refl })

  pub tells_answer : (a : A) (after : L) → accepted a ≡ want → after ≡ values a → Tells values want before 0 after
  tells_answer a after e f = rw (← e, f) (record { number = refl; places = refl })

-- the refusal is told where, so that the number has more in it
module _ {A L : Type 0} (values : A → L) (want : Told A) (before : L) where
  pub where_refused : (r : RefusalTold) (k : ℕ) → want ≡ refused r → k ≡ number_for r → Tells values (in_number want) before k before
  where_refused r k e f = rw (e, f) (record { number = refl; places = refl })

  pub where_values : (a : A) (after : L) → want ≡ accepted a → after ≡ values a → Tells values (in_number want) before 0 after
  where_values a after e f = rw (e, f) (record { number = refl; places = refl })

-- ---- a call that is lent buffers: r is what the call inside answered, and `after` what it left in them

-- it says nothing beside
left_told : {A L : Type 0} (want : Outcome (Done A L)) (before : L) → Tells left want before (number_of (said_of want)) (left_of want before)
left_told (refused k) before = record { number = refl; places = refl }
left_told (accepted d) before = record { number = refl; places = refl }

pub left_number : {A L R : Type 0} (paper : R → Outcome A) (want : Outcome (Done A L)) (before after : L) (r : R) (k : ℕ) → Meets paper want before r after
    → number_of (paper r) ≡ k → Tells left want before k after
left_number paper want before after r k m e = rw (← e, m.answer, m.buffer) (left_told want before)

-- its values stand beside
beside_told : {A L W : Type 0} (values : A → W) (want : Outcome (Done A L)) (before : L) (old : W) (d : Done A L) (a : A) → want ≡ accepted d → d.says ≡ a
    → Tells (beside values) want (before, old) 0 (left_of want before, values a)
beside_told values want before old d a e s = rw (e, ← s) (record { number = refl; places = refl })

module _ {A L W R : Type 0} (values : A → W) (paper : R → Outcome A) (want : Outcome (Done A L)) (before after : L) (old : W) (r : R)
    (m : Meets paper want before r after) where
  pub beside_refused : (k : ℕ) → paper r ≡ refused k → Tells (beside values) want (before, old) k (after, old)
  beside_refused k e = rw (m.buffer, said_refused want k (sym m.answer ∙ e)) (record { number = refl; places = refl })

  pub beside_values : (a : A) (new : W) → paper r ≡ accepted a → new ≡ values a → Tells (beside values) want (before, old) 0 (after, new)
  beside_values a new e f =
      let t = meets_accepted m e in
      rw (m.buffer, f) (beside_told values want before old t.done a t.wants t.says)

-- the same of a result
module _ {A L W : Type 0} (values : A → W) (want : Outcome (Done A L)) (before after : L) (old : W) where
  pub err_beside : (r : Refusal) (k : ℕ) → Meets on_paper want before (Err r) after → k ≡ list_number r
      → Tells (beside values) want (before, old) k (after, old)
  err_beside r k m e = rw e (beside_refused values on_paper want before after old (Err r) m (list_number r) refl)

  pub ok_beside : (a : A) (new : W) → Meets on_paper want before (Ok a) after → new ≡ values a → Tells (beside values) want (before, old) 0 (after, new)
  ok_beside a new m e = beside_values values on_paper want before after old (Ok a) m a new refl e

-- and with a refusal that is told where
beside_where : {A L W : Type 0} (values : A → W) (want : Told (Done A L)) (before : L) (old : W) (d : Done A L) (a : A) → want ≡ accepted d → d.says ≡ a
    → Tells (beside values) (in_number want) (before, old) 0 (left_of want before, values a)
beside_where values want before old d a e s = rw (e, ← s) (record { number = refl; places = refl })

module _ {A L W : Type 0} (values : A → W) (want : Told (Done A L)) (before after : L) (old : W) where
  pub err_beside_where : (r : RefusedAt) (k : ℕ) → Meets told_paper want before (Err r) after → k ≡ number_for (refusal (list_number r.refusal) r.place)
      → Tells (beside values) (in_number want) (before, old) k (after, old)
  err_beside_where r k m f =
      let says = refusal (list_number r.refusal) r.place in
      rw (m.buffer, said_refused want says (sym m.answer), f) (record { number = refl; places = refl })

  pub ok_beside_where : (a : A) (new : W) → Meets told_paper want before (Ok a) after → new ≡ values a
      → Tells (beside values) (in_number want) (before, old) 0 (after, new)
  ok_beside_where a new m f =
      let t = meets_accepted m refl in
      rw (m.buffer, f) (beside_where values want before old t.done a t.wants t.says)

-- ---- a length that is given on

length_left : {L : Type 0} (want : Outcome (Done ℕ L)) (before : L) (old k new : ℕ) → Tells plain (said_of want) old k new
    → Tells (beside plain) want (before, old) k (left_of want before, new)
length_left (refused n) before old k new t = rw (t.number, t.places) (record { number = refl; places = refl })
length_left (accepted d) before old k new t = rw (t.number, t.places) (record { number = refl; places = refl })

module _ (r : Result ℕ Refusal) (old k new : ℕ) (t : Tells plain (on_paper r) old k new) where
  pub value_given : (want : Outcome ℕ) → on_paper r ≡ want → Tells plain want old k new
  value_given want e = rw (← e) t

  pub value_beside : {L : Type 0} (want : Outcome (Done ℕ L)) (before after : L) → Meets on_paper want before r after
      → Tells (beside plain) want (before, old) k (after, new)
  value_beside want before after m = rw m.buffer (length_left want before old k new (rw m.answer at t))
