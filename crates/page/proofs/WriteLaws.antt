-- Pieces that are written one after the other. The idea: what is written so far is the pieces so far (`laid_next`), so pairs, bodies and records are laid by
-- one law; and words laid from the front on are followed by what stood there (`laid_front`).
use Rattle.words.proofs.Kit.{◌≡◌, refl, sym, ap, ◌∙◌, List, [], ◌∷◌, ◌++◌, ℕ, suc, ◌+◌, ◌≤◌, ◌<◌, arith, length, drop, set}
use native.Mathlib.Nat.{add-zero, zero-add}
use native.Mathlib.Numerals.{add-one}
use lib.Seq.{sets, sets-eq, set_comm}
use Rattle.words.specs.Part.{put}
use Rattle.words.specs.Laid.{Laid}
use Rattle.words.proofs.LaidLaws.{then, sets_put}
use Rattle.words.specs.Pieces.{pieces}
use Rattle.words.proofs.PieceLaws.{pieces_none, pieces_more}

-- ---- one piece

-- a part that is replaced
pub laid_part : (before ws after : List ℕ) (at n : ℕ) → length ws ≡ n → at + n ≤ length before → after ≡ put at n ws before → Laid before at ws (at + n) after
laid_part before ws after at n l h e = record {
  past = ap (λ (m : ℕ). at + m) (sym l);
  kept = e ∙ ap (λ (m : ℕ). put at m ws before) (sym l) ∙ sym (sets_put before ws at (omega arith));
}

-- one word, and two
pub laid_one : (before : List ℕ) (at a : ℕ) → Laid before at (a ∷ []) (at + 1) (set before at a)
laid_one before at a = record { past = refl; kept = refl }

pub laid_two : (before : List ℕ) (at a b : ℕ) → Laid before at (a ∷ b ∷ []) (at + 2) (set (set before at a) (at + 1) b)
laid_two before at a b = record { past = refl; kept = ap (λ (i : ℕ). set (set before at a) i b) (add-one at) }

-- a word before them is as before
sets_before : (ws before : List ℕ) (at i x : ℕ) → i < at → set (sets before at ws) i x ≡ sets (set before i x) at ws
sets_before [] before at i x h = refl
sets_before (w ∷ ws) before at i x h =
    sets_before ws (set before at w) (suc at) i x (omega arith) ∙ ap (λ (l : List ℕ). sets l (suc at) ws) (set_comm before at i w x (λ e. omega arith))

pub laid_before : {before ws after : List ℕ} {at to : ℕ} (i x : ℕ) → Laid before at ws to after → i < at → Laid (set before i x) at ws to (set after i x)
laid_before {before} {ws} {after} {at} {to} i x p h = record {
  past = p.past;
  kept = ap (λ (l : List ℕ). set l i x) p.kept
      ∙ sets_before ws before at i x h;
}

-- ---- pieces, one after the other

pub laid_none : (before : List ℕ) (at : ℕ) (f : ℕ → List ℕ) → Laid before at (pieces 0 f) at before
laid_none before at f = record {
  past = sym (ap (λ (l : List ℕ). at + length l) (pieces_none f) ∙ add-zero at);
  kept = sym (ap (sets before at) (pieces_none f));
}

pub laid_next : {before after after' : List ℕ} {at to to' : ℕ} (s : ℕ) (f : ℕ → List ℕ)
    → Laid before at (pieces s f) to after → Laid after to (f s) to' after' → Laid before at (pieces (s + 1) f) to' after'
laid_next {before} {after} {after'} {at} {to} {to'} s f p q =
    let e : pieces s f ++ f s ≡ pieces (s + 1) f = sym (ap (λ (n : ℕ). pieces n f) (add-one s) ∙ pieces_more s f) in
    rw e at (then p q)

-- ---- from the front on

pub laid_front : {before ws after : List ℕ} {to : ℕ} → Laid before 0 ws to after → length ws ≤ length before → after ≡ ws ++ drop (length ws) before
laid_front {before} {ws} {after} {to} p h = rw (zero-add (length ws)) at (p.kept ∙ sets-eq ws before 0 (omega arith))
