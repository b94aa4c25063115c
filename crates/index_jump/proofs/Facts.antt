-- What document 02 says of a jump. The idea: of the refusals in their order only the second has the number PLACE, and the first and the third have PAGE; and a
-- rest is below what it was divided by.
use Rattle.words.proofs.Kit.{◌≡◌, refl, true, false, ⊎_elim, List, ℕ, ◌≤◌, ◌<◌, arith, lt-ltb, le-ltb, ltb-false, not-true, not-false}
use mathlib.Core.Logic.{◌↔◌, ◌⊎◌, inl, inr}
use native.Mathlib.Nat.{mod-lt}
use borrow.Author.Tests.{ltb-true}
use Rattle.words.specs.Numbers.{PAGE, PLACE}
use Rattle.words.specs.Outcome.{refused}
use Rattle.words.proofs.Cases.{true_or_false}
use Rattle.words.proofs.RefusalLaws.{row_given, ◌else◌}
use Rattle.index.specs.Layout.{spacing, packets_taken}
use Rattle.index.specs.Good.{index_good}
use Rattle.index_jump.specs.Jump.{packets_beyond, entry_serves, jump_list, landed_done, jump_of}

-- "21 PLACE exactly for N above that number"
pub place_exact : (ws : List ℕ) (first : ℕ) (ix : List ℕ) (n : ℕ) (t : List ℕ)
    → (jump_of ws first ix n t ≡ refused PLACE) ↔ ((index_good ix ≡ true) × (packets_taken ix < n))
unfolding jump_of
place_exact ws first ix n t = (
  λ e.
      row_given (λ (k : ℕ). k ≡ PLACE → (index_good ix ≡ true) × (packets_taken ix < n)) (jump_list ws first ix n t) (landed_done ws first ix n t) PLACE
      ((λ _ z. absurd (omega (arith, z)))
      else λ good. (λ past _. (not-false (index_good ix) good, ltb-true (packets_taken ix) n past))
      else λ _. (λ _ z. absurd (omega (arith, z)))
      else λ _. (λ _ z. absurd (omega (arith, z)))
      else λ _. tt) e refl,
  λ h. rw (h.0, lt-ltb (packets_taken ix) n h.1),
)

-- "PAGE for contents or an entry not well made, or an entry from which the recording has no boundary N", and for nothing else
pub page_exact : (ws : List ℕ) (first : ℕ) (ix : List ℕ) (n : ℕ) (t : List ℕ)
    → (jump_of ws first ix n t ≡ refused PAGE) ↔ ((index_good ix ≡ false) ⊎ ((n ≤ packets_taken ix) × (entry_serves ws first ix n ≡ false)))
unfolding jump_of
page_exact ws first ix n t = (
  λ e.
      row_given (λ (k : ℕ). k ≡ PAGE → (index_good ix ≡ false) ⊎ ((n ≤ packets_taken ix) × (entry_serves ws first ix n ≡ false))) (jump_list ws first ix n t)
      (landed_done ws first ix n t) PAGE
      ((λ ill _. inl (not-true (index_good ix) ill))
      else λ _. (λ _ z. absurd (omega (arith, z)))
      else λ here. (λ no _. inr (ltb-false (packets_taken ix) n here, not-true (entry_serves ws first ix n) no))
      else λ _. (λ _ z. absurd (omega (arith, z)))
      else λ _. tt) e refl,
  ⊎_elim (λ (ill : index_good ix ≡ false). rw ill)
      (λ h.
      ⊎_elim (λ (y : index_good ix ≡ true). rw (y, le-ltb (packets_taken ix) n h.0, h.1)) (λ (ill : index_good ix ≡ false). rw ill)
      (true_or_false (index_good ix))),
)

-- "A jump plays at most 1,023 packets"
pub plays_at_most : (n : ℕ) → packets_beyond n ≤ 1023
plays_at_most n = let less : packets_beyond n < spacing = mod-lt n (omega arith) in omega (arith, less)
