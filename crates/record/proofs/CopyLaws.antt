-- The words of a field, copied without a loop. The idea: a field that has a slot has 1, 2, 11 or 13 words (`size_few`).
use Rattle.words.proofs.Kit.{◌≡◌, refl, sym, ◌∙◌, Bool, true, ⊎_elim, List, [], ◌∷◌, ℕ, ◌+◌, ◌≤◌, ◌<◌, arith, ne_eqb, eqb-true, le-ltb, eqb}
use Rattle.words.proofs.Kit.{ltb, length}
use Rattle.std.proofs.Common.{◌⊎◌, inl, inr}
use Rattle.words.specs.Tests.{pick, among}
use Rattle.words.specs.All.{all}
use Rattle.words.specs.Part.{part, put}
use Rattle.words.proofs.Cases.{true_or_false, true_is_false}
use Rattle.words.proofs.CopyLaws.{copied_then}
use Rattle.words.proofs.AllLaws.{all_at}
use Rattle.fields.specs.Sizes.{field_size}
use Rattle.record.specs.Held.{slotted}
use Rattle.record.proofs.SlotLaws.{slotted_low, slotted_high}

-- the n words of a field, of 1, 2, 11 or 13, as a program copies them
module _ (n d s : ℕ) (ws xs last : List ℕ) where
  pub copied_word : n ≡ 1 → last ≡ put d 1 (part s 1 ws) xs → last ≡ put d n (part s n ws) xs
  copied_word i e = rw i e

  pub copied_pair : n ≡ 2 → last ≡ put d 2 (part s 2 ws) xs → last ≡ put d n (part s n ws) xs
  copied_pair i e = rw i e

  pub copied_longer : (mid : List ℕ) → d + n ≤ length xs → s + n ≤ length ws → n ≡ 13 → mid ≡ put d 11 (part s 11 ws) xs
      → last ≡ put (d + 11) 2 (part (s + 11) 2 ws) mid → last ≡ put d n (part s n ws) xs
  copied_longer mid h g i e f = rw i (copied_then 11 2 d s ws xs mid last (omega arith) (omega arith) e f)

-- ---- the sizes of fields that have a slot

few : ℕ → ℕ → Bool
few b n = pick (ltb b 10) true (among n (1 ∷ 2 ∷ 11 ∷ 13 ∷ []))

-- such a field has 1, 2, 11 or 13 words
size_few : (b : ℕ) → 10 ≤ b → b < 31 → among (field_size b) (1 ∷ 2 ∷ 11 ∷ 13 ∷ []) ≡ true
unfolding few field_size all
size_few b h g = rw (le-ltb b 10 h) at (all_at (λ i. few i (field_size i)) 31 b g refl)

pub size_slotted : (b n : ℕ) → slotted b ≡ true → n ≡ field_size b → among n (1 ∷ 2 ∷ 11 ∷ 13 ∷ []) ≡ true
size_slotted b n o e = rw e (size_few b (slotted_low b o) (slotted_high b o))

among_one : (n x : ℕ) → among n (x ∷ []) ≡ true → n ≡ x
among_one n x t = ⊎_elim (λ e. eqb-true n x e) (λ e. absurd (true_is_false (sym t ∙ rw e))) (true_or_false (eqb n x))

-- one that has neither 1 nor 2 has 11 or 13
eleven_or_more : (n : ℕ) → among n (1 ∷ 2 ∷ 11 ∷ 13 ∷ []) ≡ true → (n ≡ 1 → ⊥) → (n ≡ 2 → ⊥) → (n ≡ 11) ⊎ (n ≡ 13)
eleven_or_more n t p q =
    let a : among n (2 ∷ 11 ∷ 13 ∷ []) ≡ true = rw (ne_eqb n 1 p) at t in
    let b : among n (11 ∷ 13 ∷ []) ≡ true = rw (ne_eqb n 2 q) at a in
    ⊎_elim (λ x. inl (eqb-true n 11 x)) (λ x. inr (among_one n 13 (rw x at b))) (true_or_false (eqb n 11))

pub size_long : (n : ℕ) → among n (1 ∷ 2 ∷ 11 ∷ 13 ∷ []) ≡ true → (n ≡ 1 → ⊥) → (n ≡ 2 → ⊥) → 11 ≤ n
size_long n t p q = ⊎_elim (λ (e : n ≡ 11). omega arith) (λ (e : n ≡ 13). omega arith) (eleven_or_more n t p q)

pub size_eleven : (n : ℕ) → among n (1 ∷ 2 ∷ 11 ∷ 13 ∷ []) ≡ true → (n ≡ 1 → ⊥) → (n ≡ 2 → ⊥) → (n ≡ 13 → ⊥) → n ≡ 11
size_eleven n t p q r = ⊎_elim (λ e. e) (λ e. absurd (r e)) (eleven_or_more n t p q)

-- and so it lies inside, and is copied whole
module _ (n d : ℕ) (t : among n (1 ∷ 2 ∷ 11 ∷ 13 ∷ []) ≡ true) (p : n ≡ 1 → ⊥) (q : n ≡ 2 → ⊥) where
  pub long_inside : (xs : List ℕ) → d + n ≤ length xs → d + 11 ≤ length xs
  long_inside xs h = omega (arith, size_long n t p q)

  pub copied_long : (s : ℕ) (ws xs last : List ℕ) → (n ≡ 13 → ⊥) → last ≡ put d 11 (part s 11 ws) xs → last ≡ put d n (part s n ws) xs
  copied_long s ws xs last r e = rw (size_eleven n t p q r) e
