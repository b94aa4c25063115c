-- Numbered pieces, one after the other. The idea: piece s begins where the pieces before it end, so it is found there (`pieces_at`); and a list cut at places
-- without gaps is its parts, one after the other (`pieces_parts`).
use Rattle.words.proofs.Kit.{◌≡◌, refl, sym, ap, ◌∙◌, ⊎_elim, List, [], ◌++◌, ℕ, zero, suc, ◌+◌, ◌-◌, ◌*◌, ◌≤◌, ◌<◌, arith, length}
use native.Mathlib.Nat.{add-zero, mul-zero, not-suc-le-zero}
use lib.ListN.{length-append}
use lib.Seq.{take-add, drop-drop}
use Rattle.words.specs.Part.{part}
use Rattle.words.proofs.Cases.{le_or_lt}
use Rattle.words.proofs.PartLaws.{part_is, part_past, part_within, part_whole}
use Rattle.words.specs.Pieces.{pieces}

-- ---- its clauses

pub pieces_none : (f : ℕ → List ℕ) → pieces 0 f ≡ []
unfolding pieces
pieces_none f = refl

pub pieces_more : (n : ℕ) (f : ℕ → List ℕ) → pieces (suc n) f ≡ pieces n f ++ f n
unfolding pieces
pieces_more n f = refl

pub pieces_same : (n : ℕ) (f g : ℕ → List ℕ) → ((s : ℕ) → s < n → f s ≡ g s) → pieces n f ≡ pieces n g
pieces_same zero f g e = pieces_none f ∙ sym (pieces_none g)
pieces_same (suc n) f g e = rw (pieces_more n f, pieces_more n g, pieces_same n f g (λ s h. e s (omega arith)), e n (omega arith))

-- ---- lengths

pub pieces_next : (n : ℕ) (f : ℕ → List ℕ) → length (pieces (suc n) f) ≡ length (pieces n f) + length (f n)
pieces_next n f = ap length (pieces_more n f) ∙ length-append (pieces n f) (f n)

-- pieces of one length
pub pieces_length : (n k : ℕ) (f : ℕ → List ℕ) → ((s : ℕ) → s < n → length (f s) ≡ k) → length (pieces n f) ≡ k * n
pieces_length zero k f e = ap length (pieces_none f) ∙ sym (mul-zero k)
pieces_length (suc n) k f e = pieces_next n f ∙ omega (arith, pieces_length n k f (λ s h. e s (omega arith)), e n (omega arith))

-- piece s ends before a later one begins
pub pieces_inside : (n s : ℕ) (f : ℕ → List ℕ) → s < n → length (pieces s f) + length (f s) ≤ length (pieces n f)
pieces_inside zero s f h = absurd (not-suc-le-zero h)
pieces_inside (suc n) s f h =
    ⊎_elim (λ (g : n ≤ s). let e : s ≡ n = omega arith in rw e (omega (arith, pieces_next n f)))
    (λ (g : s < n). omega (arith, pieces_next n f, pieces_inside n s f g)) (le_or_lt n s)

-- ---- a piece, where it stands

pub pieces_at : (n s : ℕ) (f : ℕ → List ℕ) → s < n → part (length (pieces s f)) (length (f s)) (pieces n f) ≡ f s
pieces_at zero s f h = absurd (not-suc-le-zero h)
pieces_at (suc n) s f h =
    ⊎_elim
    (λ (g : n ≤ s).
    let e : s ≡ n = omega arith in
    rw (e, pieces_more n f)
    (ap (λ (a : ℕ). part a (length (f n)) (pieces n f ++ f n)) (sym (add-zero (length (pieces n f))))
    ∙ part_past (length (pieces n f)) 0 (length (f n)) (pieces n f) (f n) refl ∙ part_whole (f n)))
    (λ (g : s < n).
    ap (part (length (pieces s f)) (length (f s))) (pieces_more n f)
    ∙ part_within (length (pieces s f)) (length (f s)) (pieces n f) (f n) (pieces_inside n s f g) ∙ pieces_at n s f g)
    (le_or_lt n s)

-- ---- parts of a list, one after the other

pub part_none : (a : ℕ) (ws : List ℕ) → part a 0 ws ≡ []
part_none a ws = part_is a 0 ws

pub part_join : (a n m : ℕ) (ws : List ℕ) → part a n ws ++ part (a + n) m ws ≡ part a (n + m) ws
unfolding part
part_join a n m ws = sym (take-add n m _ ∙ rw (drop-drop n a ws))

-- cut without gaps: piece s begins at b s
pub pieces_parts : (n : ℕ) (b l : ℕ → ℕ) (ws : List ℕ) → ((s : ℕ) → s < n → b (suc s) ≡ b s + l s)
    → (b 0 ≤ b n) × (pieces n (λ s. part (b s) (l s) ws) ≡ part (b 0) (b n - b 0) ws)
pieces_parts zero b l ws e =
    let z : b 0 - b 0 ≡ 0 = omega arith in
    (omega arith, pieces_none _ ∙ sym (ap (λ (m : ℕ). part (b 0) m ws) z ∙ part_none (b 0) ws))
pieces_parts (suc n) b l ws e =
    let p = pieces_parts n b l ws (λ s h. e s (omega arith)) in
    let c : b (suc n) ≡ b n + l n = e n (omega arith) in
    let d : b n ≡ b 0 + (b n - b 0) = omega (arith, p.0) in
    let k : b n - b 0 + l n ≡ b (suc n) - b 0 = omega (arith, p.0) in (
      omega (arith, p.0),
      pieces_more n (λ s. part (b s) (l s) ws) ∙ ap (λ (z : List ℕ). z ++ part (b n) (l n) ws) p.1
          ∙ ap (λ (m : ℕ). part (b 0) (b n - b 0) ws ++ part m (l n) ws) d ∙ part_join (b 0) (b n - b 0) (l n) ws ∙ ap (λ (m : ℕ). part (b 0) m ws) k,
    )
