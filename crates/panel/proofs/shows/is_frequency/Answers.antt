-- `is_frequency` meets its promise: 21, or both bounds.
use Rattle.words.proofs.Kit.{◌≡◌, true, false, ℕ, ◌≤◌, ◌<◌, arith, eq-eqb, ne_eqb, le-leb, lt-leb}
use Rattle.panel.specs.Readings.{is_frequency}
use Rattle.panel.proofs.shows.is_frequency.Goals as goal

module _ (b : ℕ) where
  one : b ≡ 21 → true ≡ is_frequency b
  unfolding is_frequency
  one e = rw (eq-eqb b 21 e)

  between : 25 ≤ b → b ≤ 29 → true ≡ is_frequency b
  unfolding is_frequency
  between lo hi = rw (ne_eqb b 21 (λ e. omega (arith, e)), le-leb 25 b lo, le-leb b 29 hi)

  below : (b ≡ 21 → ⊥) → b < 25 → false ≡ is_frequency b
  unfolding is_frequency
  below d h = rw (ne_eqb b 21 d, lt-leb 25 b h)

  above : 29 < b → false ≡ is_frequency b
  unfolding is_frequency
  above h = rw (ne_eqb b 21 (λ e. omega (arith, e)), le-leb 25 b (omega arith), lt-leb b 29 h)

pub returns-in-21 : goal.returns-in-21
returns-in-21 c = one _ (omega arith)

pub returns-in-21-2 : goal.returns-in-21-2
returns-in-21-2 c = between _ (omega arith) (omega arith)

pub returns-in_default : goal.returns-in_default
returns-in_default c = below _ (λ e. omega (arith, e)) (omega arith)

pub returns-in_default-2 : goal.returns-in_default-2
returns-in_default-2 c = above _ (omega arith)
