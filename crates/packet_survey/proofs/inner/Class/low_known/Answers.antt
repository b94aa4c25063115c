-- `low_known` meets its promise: zeros to the left of the data type and of real or complex are one bound (`low_fits`).
use Rattle.words.proofs.Kit.{◌≡◌, sym, true, false, ⊎_elim, ℕ, ◌^◌, ◌≤◌, ◌<◌, arith, le-leb, le-ltb, leb, ltb}
use Rattle.words.proofs.Cases.{true_or_false, both_true}
use Rattle.packet_survey.specs.Class.{data_type, low_known}
use Rattle.packet_survey.proofs.ClassLaws.{low_fits, fixed_zero, reserved_zero, complex_most, type_least, type_most}
use Rattle.packet_survey.proofs.inner.Class.low_known.Goals as goal

module _ (low : ℕ) where
  known : low < 2 ^ 21 → 1 ≤ data_type low → data_type low ≤ 13 → true ≡ low_known low
  known h l m = sym (low_fits low h (both_true (leb 1 (data_type low)) (leb (data_type low) 13) (le-leb _ _ l) (le-leb _ _ m)))

  other : (low_known low ≡ true → ⊥) → false ≡ low_known low
  other unlike = ⊎_elim (λ t. absurd (unlike t)) (λ f. sym f) (true_or_false (low_known low))

  above : low < 2 ^ 32 → 2 ^ 21 ≤ low → ltb low (2 ^ 21) ≡ low_known low
  above fits h = rw (le-ltb low (2 ^ 21) h) (other (λ e. omega (arith, fixed_zero low e, reserved_zero low e, complex_most low e)))

pub returns-in-1-to-13 : goal.returns-in-1-to-13
returns-in-1-to-13 c = known c.args.self.low c.if-self-lt2097152.true (omega arith) (omega arith)

pub returns-in_default : goal.returns-in_default
returns-in_default c = other c.args.self.low (λ e. omega (arith, type_least c.args.self.low e))

pub returns-in_default-2 : goal.returns-in_default-2
returns-in_default-2 c = other c.args.self.low (λ e. omega (arith, type_most c.args.self.low e))

pub returns-else-self-lt2097152 : goal.returns-else-self-lt2097152
returns-else-self-lt2097152 c = above c.args.self.low (omega arith) c.if-self-lt2097152.false
