-- `is_counted` meets its promise: the types of the definition, and no others.
use Rattle.words.proofs.Kit.{◌≡◌, refl, true, false, ⊎_elim, ℕ, ◌≤◌, ◌<◌, arith, ne_eqb}
use Rattle.words.specs.Tests.{among}
use Rattle.words.proofs.Cases.{le_or_lt}
use Rattle.record.specs.Layout.{counted_types}
use Rattle.panel_streams.proofs.records.is_counted.Goals as goal

module _ (k : ℕ) where
  one : k ≡ 1 → true ≡ among k counted_types
  one e = rw e

  three : 3 ≤ k → k ≤ 5 → true ≡ among k counted_types
  three lo hi =
      ⊎_elim (λ (h : 4 ≤ k). ⊎_elim (λ (g : 5 ≤ k). let e : k ≡ 5 = omega arith in rw e) (λ (g : k < 5). let e : k ≡ 4 = omega arith in rw e) (le_or_lt 5 k))
      (λ (h : k < 4). let e : k ≡ 3 = omega arith in rw e) (le_or_lt 4 k)

  other : (k ≡ 1 → ⊥) → (k ≡ 3 → ⊥) → (k ≡ 4 → ⊥) → (k ≡ 5 → ⊥) → false ≡ among k counted_types
  other a b c d = rw (ne_eqb k 1 a, ne_eqb k 3 b, ne_eqb k 4 c, ne_eqb k 5 d)

pub returns-in-1 : goal.returns-in-1
returns-in-1 c = one c.args.kind (omega arith)

pub returns-in-1-2 : goal.returns-in-1-2
returns-in-1-2 c = three c.args.kind (omega arith) (omega arith)

pub returns-in_default : goal.returns-in_default
returns-in_default c = other c.args.kind (λ e. omega (arith, e)) (λ e. omega (arith, e)) (λ e. omega (arith, e)) (λ e. omega (arith, e))

pub returns-in_default-2 : goal.returns-in_default-2
returns-in_default-2 c = other c.args.kind (λ e. omega (arith, e)) (λ e. omega (arith, e)) (λ e. omega (arith, e)) (λ e. omega (arith, e))
