-- Two answers that meet the promise of a public call are equal. The idea: an answer is found again from its numbers and values, as by
-- `found_back`, so `once` applies; a count is its own number.
use Rattle.std.specs.Prelude.{Result, Option, Some, None}
use Rattle.words.proofs.Kit.{◌≡◌, refl, List, [], ◌∷◌, ℕ}
use Rattle.words.specs.declared.refusals.Refusal.{Refusal}
use Rattle.words.specs.Listed.{on_paper}
use Rattle.words.proofs.Once.{once, on_paper_once}
use Rattle.fields.specs.Layout.{field_count, context_of, found_of}
use Rattle.fields.specs.Answers.{found_paper}
use Rattle.fields.specs.declared.places.Found.{Found}

pub field_count_once : (indicator m n : ℕ) → m ≡ field_count indicator → n ≡ field_count indicator → m ≡ n
field_count_once indicator m n = once (λ k. k) (λ k. k) (λ k. refl)

pub check_body_once : (body : List ℕ) (r s : Result Unit Refusal) → on_paper r ≡ context_of body → on_paper s ≡ context_of body → r ≡ s
check_body_once body r s = on_paper_once

found_back : List ℕ → Option Found
found_back (at ∷ n ∷ rest) = Some (record { at = at; words = n })
found_back (at ∷ []) = None
found_back [] = None

found_back_lem : (r : Option Found) → found_back (found_paper r) ≡ r
unfolding found_back
found_back_lem (Some f) = refl
found_back_lem None = refl

pub find_once : (bit : ℕ) (body : List ℕ) (r s : Option Found) → found_paper r ≡ found_of bit body → found_paper s ≡ found_of bit body → r ≡ s
find_once bit body r s = once found_paper found_back found_back_lem
