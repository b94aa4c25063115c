-- Runs of writes. The idea: a writer's promise is `Laid`, two writers in turn join by `then`, and a writer that was lent the part from a place on
-- joins by `lend`; so a packet or a page is laid by its pieces, in one line for each. Inside, a run is `sets`, which needs no room; `sets_put`
-- says it, where there is room, as a part that is replaced.
use Rattle.words.proofs.Kit.{◌≡◌, sym, ap, ◌∙◌, List, [], ◌∷◌, ◌++◌, ℕ, suc, ◌+◌, ◌-◌, ◌≤◌, arith, length, take, drop, set}
use mathlib.Core.List.{append-nil, append_assoc}
use native.Mathlib.Nat.{add-zero, add_assoc, zero-add, add-suc, suc-add, le-add_right}
use lib.ListN.{length-append, length-set, length-drop, take-append-drop, drop_of_length-le}
use lib.Seq.{sets, sets-eq, length-sets, drop-set-add, take-set-le, take_all, drop-drop}
use borrow.Rule.Slice.PartMut.{mid_of, put_mid}
use Rattle.words.specs.Part.{put}
use Rattle.words.specs.Laid.{Laid}

module _ {A : Type 0} where
  -- two runs, the second where the first ends
  pub sets_append : (l : List A) (i : ℕ) (a b : List A) → sets (sets l i a) (i + length a) b ≡ sets l i (a ++ b)
  sets_append l i [] b = ap (λ (k : ℕ). sets l k b) (add-zero i)
  sets_append l i (x ∷ a) b =
      ap (λ (k : ℕ). sets (sets (set l i x) (suc i) a) k b) (add-suc i (length a) ∙ sym (suc-add i (length a)))
      ∙ sets_append (set l i x) (suc i) a b

  -- a run in the part from n on
  pub sets_part : (ws l : List A) (n i : ℕ) → n ≤ length l → take n l ++ sets (drop n l) i ws ≡ sets l (n + i) ws
  sets_part [] l n i h = take-append-drop n l
  sets_part (w ∷ ws) l n i h =
      ap (λ (r : List A). r ++ sets (set (drop n l) i w) (suc i) ws) (sym (take-set-le n l (n + i) w (le-add_right n i)))
      ∙ ap (λ (r : List A). take n (set l (n + i) w) ++ sets r (suc i) ws) (sym (drop-set-add n l i w))
      ∙ sets_part ws (set l (n + i) w) n (suc i) (rw length-set h)
      ∙ ap (λ (k : ℕ). sets (set l (n + i) w) k ws) (add-suc n i)

-- stores that fill a list
pub sets_all : (vs ws : List ℕ) → length ws ≡ length vs → sets ws 0 vs ≡ vs
sets_all vs ws l =
    let g : 0 + length vs ≤ length ws = omega arith in
    let h : length ws ≤ 0 + length vs = omega arith in
    sets-eq vs ws 0 g ∙ rw (drop_of_length-le ws h) (append-nil vs)

-- ---- the writers' contracts, composed
pub then : {l m n : List ℕ} {at i k : ℕ} {a b : List ℕ} → Laid l at a i m → Laid m i b k n → Laid l at (a ++ b) k n
then {l} {m} {n} {at} {i} {k} {a} {b} p q = record {
  past = q.past ∙ ap (λ (x : ℕ). x + length b) p.past ∙ add_assoc at (length a) (length b) ∙ ap (λ (x : ℕ). at + x) (sym (length-append a b));
  kept = q.kept ∙ ap (λ (x : List ℕ). sets x i b) p.kept ∙ ap (λ (x : ℕ). sets (sets l at a) x b) p.past ∙ sets_append l at a b;
}

pub laid_length : {l m : List ℕ} {at i : ℕ} {a : List ℕ} → Laid l at a i m → length m ≡ length l
laid_length p = ap length p.kept ∙ simp length-sets

-- what a callee that was lent the part from at on says of the part, said of the whole
pub lend : {l m ws : List ℕ} {next : ℕ} (at : ℕ) → at ≤ length l → Laid (mid_of at (length l - at) l) 0 ws next m
    → Laid l at ws (at + next) (put_mid at (length l - at) l m)
lend {l} {m} {ws} {next} at h p = record {
  past = ap (λ (x : ℕ). at + x) (p.past ∙ zero-add (length ws));
  kept =
      ap (λ (x : List ℕ). take at l ++ (m ++ x)) (drop_of_length-le (drop at l) {i = length l - at} (simp length-drop (omega arith)))
      ∙ ap (λ (x : List ℕ). take at l ++ x)
      (append-nil m ∙ p.kept ∙ ap (λ (x : List ℕ). sets x 0 ws) (take_all (length l - at) (drop at l) (simp length-drop (omega arith))))
      ∙ sets_part ws l at 0 h
      ∙ ap (λ (x : ℕ). sets l x ws) (add-zero at);
}

-- ---- where there is room, a run is a part that is replaced
pub sets_put : (l ws : List ℕ) (at : ℕ) → at + length ws ≤ length l → sets l at ws ≡ put at (length ws) ws l
unfolding put
sets_put l ws at h =
    sets-eq ws l at h ∙ append_assoc (take at l) ws (drop (at + length ws) l)
    ∙ ap (λ (x : List ℕ). take at l ++ (ws ++ x)) (sym (drop-drop (length ws) at l))
