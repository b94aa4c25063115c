-- Laws of `filled`: the start, a turn and the end of a loop that fills a buffer (`Fills`), where another loop goes on, and what then stands at each place.
use Rattle.words.proofs.Kit.{◌≡◌, refl, sym, ap, ap₂, ◌∙◌, List, [], ◌∷◌, ◌++◌, ⊎_elim, ℕ, zero, suc, ◌+◌, ◌≤◌, ◌<◌, arith, get_or, length, set, take}
use Rattle.words.proofs.Kit.{drop}
use mathlib.Core.List.{append_assoc}
use native.Mathlib.Nat.{eq-or-lt_of_le, le_of_suc-le-suc, not-suc-le-zero}
use native.Mathlib.Numerals.{add-one}
use lib.ListN.{length-set, length-append, length-drop, get_or-append}
use Rattle.std.specs.Prelude.{replicate}
use Rattle.std.proofs.lemmas.List.{length-take, drop_all}
use Rattle.std.proofs.lemmas.List.Edits.{fill_none, fill_more}
use lib.Seq.{set_at, take_at, get_or_at, drop-cons, ext_get_or}
use Rattle.bitstream.specs.Filled.{list_of, filled}
use Rattle.bitstream.specs.inner.FilledOn.{FilledOn}

-- ---- a list by its entries
pub list_length : (n : ℕ) (h : ℕ → ℕ) → length (list_of n h) ≡ n
unfolding list_of
list_length zero h = refl
list_length (suc n) h = length-append (list_of n h) (h n ∷ []) ∙ omega (arith, list_length n h)

list_same : (n : ℕ) (h h' : ℕ → ℕ) → ((k : ℕ) → k < n → h k ≡ h' k) → list_of n h ≡ list_of n h'
unfolding list_of
list_same zero h h' e = refl
list_same (suc n) h h' e = ap₂ (λ (x : List ℕ) (y : ℕ). x ++ (y ∷ [])) (list_same n h h' (λ k q. e k (omega arith))) (e n (omega arith))

pub list_at : (n : ℕ) (h : ℕ → ℕ) (k : ℕ) → k < n → get_or (list_of n h) k 0 ≡ h k
unfolding list_of
list_at zero h k q = absurd (not-suc-le-zero q)
list_at (suc n) h k q =
    ⊎_elim
    (λ e. ap (λ (x : ℕ). get_or (list_of n h ++ (h n ∷ [])) x 0) e ∙ get_or_at (list_of n h) (h n) [] 0 n (list_length n h) ∙ ap h (sym e))
    (λ t. get_or-append (list_of n h) (h n ∷ []) 0 k (omega (arith, list_length n h)) ∙ list_at n h k t)
    (eq-or-lt_of_le (le_of_suc-le-suc q))

-- ---- a buffer whose first places are filled
pub filled_length : (n : ℕ) (h : ℕ → ℕ) (l : List ℕ) → n ≤ length l → length (filled n h l) ≡ length l
unfolding filled
filled_length n h l r = length-append (list_of n h) (drop n l) ∙ omega (arith, list_length n h, length-drop n l)

pub filled_same : (n : ℕ) (h h' : ℕ → ℕ) (l : List ℕ) → ((k : ℕ) → k < n → h k ≡ h' k) → filled n h l ≡ filled n h' l
unfolding filled
filled_same n h h' l e = ap (λ (x : List ℕ). x ++ drop n l) (list_same n h h' e)

-- the front that was filled
pub filled_take : (n : ℕ) (h : ℕ → ℕ) (l : List ℕ) → take n (filled n h l) ≡ list_of n h
unfolding filled
filled_take n h l = take_at (list_of n h) (drop n l) n (list_length n h)

-- it is the list whose entries were put there
pub filled_front : (n : ℕ) (h : ℕ → ℕ) (l l' : List ℕ) → length l' ≡ n → ((k : ℕ) → k < n → h k ≡ get_or l' k 0) → take n (filled n h l) ≡ l'
filled_front n h l l' e q =
    filled_take n h l
    ∙ ext_get_or 0 (list_of n h) l' (list_length n h ∙ sym e)
    (λ i g. let s : i < n = omega (arith, list_length n h) in list_at n h i s ∙ q i s)

-- ---- one place more
pub filled_none : (h : ℕ → ℕ) (l : List ℕ) → l ≡ filled 0 h l
unfolding filled list_of
filled_none h l = refl

pub filled_more : (k : ℕ) (h : ℕ → ℕ) (l l' : List ℕ) (x : ℕ) → k < length l → l' ≡ filled k h l → x ≡ h k → set l' k x ≡ filled (k + 1) h l
unfolding filled list_of
filled_more k h l l' x r e q =
    ap₂ (λ (y : List ℕ) (z : ℕ). set y k z) (e ∙ ap (λ (y : List ℕ). list_of k h ++ y) (drop-cons l k 0 r)) q
    ∙ set_at (list_of k h) (get_or l k 0) (drop (suc k) l) (h k) k (list_length k h)
    ∙ sym (append_assoc (list_of k h) (h k ∷ []) (drop (suc k) l))
    ∙ ap (λ (n : ℕ). filled n h l) (sym (add-one k))

-- a buffer whose first n places are filled by themselves
pub filled_part : (n : ℕ) (h : ℕ → ℕ) (l m : List ℕ) → m ≡ filled n h (take n l) → m ++ drop n l ≡ filled n h l
unfolding filled
filled_part n h l m e =
    ap (λ (x : List ℕ). x ++ drop n l) (e ∙ ap (λ (x : List ℕ). list_of n h ++ x) (drop_all n (take n l) (omega (arith, length-take n l))))
    ∙ append_assoc (list_of n h) [] (drop n l)

-- with zeros
pub zeros : (n : ℕ) (l : List ℕ) → n ≤ length l → replicate n 0 ++ drop n l ≡ filled n (λ k. 0) l
zeros zero l r = sym (fill_none l 0) ∙ filled_none (λ k. 0) l
zeros (suc n) l r =
    ap (λ (k : ℕ). replicate k 0 ++ drop k l) (sym (add-one n))
    ∙ sym (fill_more n 0 l (omega arith))
    ∙ filled_more n (λ k. 0) l _ 0 (omega arith) (zeros n l (omega arith)) refl
    ∙ ap (λ (k : ℕ). filled k (λ i. 0) l) (add-one n)

-- ---- a loop that fills the places from a up to n with h: those up to k are filled. What stands before a, of g, is another's; from a on, g is h.
pub record Fills (a n k : ℕ) (h : ℕ → ℕ) (l l' : List ℕ) : Type 0 where
  pub from : a ≤ k
  pub most : k ≤ n
  pub room : n ≤ length l
  pub long : length l' ≡ length l
  pub here : (g : ℕ → ℕ) → ((j : ℕ) → a ≤ j → j < n → h j ≡ g j) → (buffer : List ℕ) → n ≤ length buffer → l ≡ filled a g buffer → l' ≡ filled k g buffer

pub fills_start : (a n : ℕ) (h : ℕ → ℕ) (l : List ℕ) → a ≤ n → n ≤ length l → Fills a n a h l l
fills_start a n h l q r = record { from = omega arith; most = q; room = r; long = refl; here = λ g s buffer t e. e }

pub fills_none : (n : ℕ) (h : ℕ → ℕ) (l : List ℕ) → n ≤ length l → Fills 0 n 0 h l l
fills_none n h l = fills_start 0 n h l (omega arith)

pub fills_turn : {a n k : ℕ} {h : ℕ → ℕ} {l l' : List ℕ} {x : ℕ} → Fills a n k h l l' → k < n → x ≡ h k → Fills a n (k + 1) h l (set l' k x)
fills_turn {a} {n} {k} {h} {l} {l'} {x} f q e = record {
  from = omega arith;
  most = omega arith;
  room = f.room;
  long = length-set l' k x ∙ f.long;
  here = λ g s buffer r b. filled_more k g buffer l' x (omega arith) (f.here g s buffer r b) (e ∙ s k f.from q);
}

-- all of them are filled
pub fills_as : {a n k : ℕ} {h g : ℕ → ℕ} {l l' : List ℕ} → Fills a n k h l l' → n ≤ k → ((j : ℕ) → a ≤ j → j < n → h j ≡ g j) → FilledOn a n g l l'
fills_as {a} {n} {k} {h} {g} f q s = let e : k ≡ n = omega (arith, f.most) in rw e at (f.here g s)

pub fills_end : {a n k : ℕ} {h : ℕ → ℕ} {l l' : List ℕ} → Fills a n k h l l' → n ≤ k → FilledOn a n h l l'
fills_end f q = fills_as f q (λ j r s. refl)

-- where a loop began at the first place
pub filled_whole : (n : ℕ) (h : ℕ → ℕ) (l l' : List ℕ) → n ≤ length l → FilledOn 0 n h l l' → l' ≡ filled n h l
filled_whole n h l l' r e = e l r (filled_none h l)

-- and another went on
pub filled_twice : (a n : ℕ) (h : ℕ → ℕ) (l l' l'' : List ℕ) → a ≤ n → n ≤ length l → FilledOn 0 a h l l' → FilledOn a n h l' l'' → l'' ≡ filled n h l
filled_twice a n h l l' l'' q r e f = f l r (filled_whole a h l l' (omega arith) e)

pub fills_all : {n k : ℕ} {h : ℕ → ℕ} {l l' : List ℕ} → Fills 0 n k h l l' → n ≤ k → l' ≡ filled n h l
fills_all f q = filled_whole _ _ _ _ f.room (fills_end f q)
