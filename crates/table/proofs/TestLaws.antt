-- A loop that tests one number after the other. The idea: b is what the test of number s answered; the laws take it as the program has it, so that a proof
-- of such a loop only cites them.
use Rattle.words.proofs.Kit.{◌≡◌, sym, ◌∙◌, Bool, true, false, not, ℕ, ◌+◌, ◌≤◌, ◌<◌, arith, not-true, not-false}
use Rattle.words.specs.All.{all}
use Rattle.words.proofs.AllLaws.{all_more, all_fails, all_end}

-- a turn that passes, one that fails, and the end
pub test_passed : (f : ℕ → Bool) (s : ℕ) (b : Bool) → b ≡ f s → not b ≡ false → all s f ≡ true → all (s + 1) f ≡ true
test_passed f s b e h a = all_more f s a (sym e ∙ not-false b h)

pub test_failed : (f : ℕ → Bool) (n s : ℕ) (b : Bool) → b ≡ f s → not b ≡ true → s < n → false ≡ all n f
test_failed f n s b e h g = sym (all_fails f n s g (sym e ∙ not-true b h))

pub test_ended : (f : ℕ → Bool) (n s : ℕ) → all s f ≡ true → s ≤ n → n ≤ s → true ≡ all n f
test_ended f n s a h g = sym (all_end f n s (omega arith) a)
