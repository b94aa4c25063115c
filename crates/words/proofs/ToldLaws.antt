-- Answers that are told where. The idea: telling changes what a refusal says and nothing else, so it may be done before or after what follows an answer.
use Rattle.words.proofs.Kit.{◌≡◌, refl, ap, ◌∙◌, Bool, true, false, [], ◌∷◌, ℕ, arith}
use Rattle.words.specs.Tests.{pick}
use Rattle.words.specs.declared.Where.{Where}
use Rattle.words.specs.Outcome.{Outcome, refused, accepted, onward, Done, said_of, left_of}
use Rattle.words.specs.Refusals.{Refusals, first_given}
use Rattle.words.specs.Told.{RefusalTold, refusal, told, told_list}

module _ (place : ℕ → Where) {A : Type 0} where
  -- what is accepted with places was accepted without them
  pub told_accepted : (o : Outcome A) (a : A) → told place o ≡ accepted a → o ≡ accepted a
  told_accepted (refused n) a e = let z : ◌≡◌ {A = ℕ} 0 1 = cc in absurd (omega arith)
  told_accepted (accepted b) a e = cc

  -- a refusal's number and place
  pub refused_told : (o : Outcome A) (n : ℕ) (at : Where) → refused n ≡ o → at ≡ place n → refused (refusal n at) ≡ told place o
  refused_told o n at e f = rw (← e, f)

  pub told_refused : (o : Outcome A) (r : RefusalTold) → told place o ≡ refused r → (n : ℕ) × (o ≡ refused n) × (r ≡ refusal n (place n))
  told_refused (refused n) r e = (n, refl, cc)
  told_refused (accepted a) r e = let z : ◌≡◌ {A = ℕ} 0 1 = cc in absurd (omega arith)

  -- the first that applies is given, and its place
  told_pick : (t : Bool) (n : ℕ) (o : Outcome A) → told place (pick t (refused n) o) ≡ pick t (refused (refusal n (place n))) (told place o)
  told_pick true n o = refl
  told_pick false n o = refl

  pub told_first : (rs : Refusals) (o : Outcome A) → told place (first_given rs o) ≡ first_given (told_list place rs) (told place o)
  told_first [] o = refl
  told_first (r ∷ rs) o = told_pick r.1 r.0 (first_given rs o) ∙ ap (pick r.1 (refused (refusal r.0 (place r.0)))) (told_first rs o)

-- what follows an answer
pub told_onward : (place : ℕ → Where) {A B : Type 0} (o : Outcome A) (rest : A → Outcome B)
    → told place (onward o rest) ≡ onward (told place o) (λ a. told place (rest a))
told_onward place (refused n) rest = refl
told_onward place (accepted a) rest = refl

-- a call that is lent a buffer: what it says, and what it leaves
module _ (place : ℕ → Where) {A L : Type 0} where
  pub told_said : (o : Outcome (Done A L)) → said_of (told place o) ≡ told place (said_of o)
  told_said (refused n) = refl
  told_said (accepted d) = refl

  pub told_left : (o : Outcome (Done A L)) (before : L) → left_of (told place o) before ≡ left_of o before
  told_left (refused n) before = refl
  told_left (accepted d) before = refl
