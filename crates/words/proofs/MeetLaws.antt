-- The promise of a call that is lent words, `Meets`: how an answer meets it, and what an answer that meets it tells. The idea: what a call says tells what it
-- does (`said_accepted`, `said_refused`).
use Rattle.std.specs.Prelude.{Ok, Err}
use Rattle.words.proofs.Kit.{◌≡◌, refl, sym, ap, ◌∙◌, ℕ, arith}
use Rattle.words.specs.declared.refusals.Refusal.{Refusal}
use Rattle.words.specs.Outcome.{Outcome, Reply, refused, accepted, Done, said_of, left_of, Meets}
use Rattle.words.specs.Listed.{list_number, on_paper}

module _ {R A L : Type 0} where
  pub said_refused : (want : Reply R (Done A L)) (n : R) → said_of want ≡ refused n → want ≡ refused n
  said_refused (refused m) n e = cc
  said_refused (accepted d) n e = let z : ◌≡◌ {A = ℕ} 0 1 = cc in absurd (omega arith)

  pub said_accepted : (want : Reply R (Done A L)) (a : A) → said_of want ≡ accepted a → (d : Done A L) × (want ≡ accepted d) × (d.says ≡ a)
  said_accepted (refused m) a e = let z : ◌≡◌ {A = ℕ} 0 1 = cc in absurd (omega arith)
  said_accepted (accepted d) a e = (d, refl, cc)

-- what an accepted answer tells: what the call wanted, said and left
pub record Wanted {R A L : Type 0} (want : Reply R (Done A L)) (a : A) (after : L) : Type 0 where
  pub done : Done A L
  pub wants : want ≡ accepted done
  pub says : done.says ≡ a
  pub leaves : after ≡ done.leaves

pub meets_accepted : {R A L S : Type 0} {paper : S → Reply R A} {want : Reply R (Done A L)} {before after : L} {r : S} {a : A}
    → Meets paper want before r after → paper r ≡ accepted a → Wanted want a after
meets_accepted {want = want} {before = before} {a = a} m e =
    let d = said_accepted want a (sym m.answer ∙ e) in
    record { done = d.0; wants = d.1; says = d.2; leaves = m.buffer ∙ ap (λ o. left_of o before) d.1 }

-- ---- a call that gives a result
module _ {A L : Type 0} {want : Outcome (Done A L)} {before : L} where
  pub meets_err : {r : Refusal} → want ≡ refused (list_number r) → Meets on_paper want before (Err r) before
  meets_err e = record { answer = rw e; buffer = rw e }

  pub meets_ok : {a : A} {left after : L} → want ≡ accepted (record { says = a; leaves = left }) → after ≡ left → Meets on_paper want before (Ok a) after
  meets_ok e f = record { answer = rw e; buffer = f ∙ rw e }
