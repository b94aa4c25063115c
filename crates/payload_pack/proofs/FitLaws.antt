-- Numbers that fit, tested all at once. The idea: a number is at most the bits that any of them has, so all are below a power of two where those are.
use Rattle.words.proofs.Kit.{◌≡◌, refl, sym, ap, ◌∙◌, Bool, true, ⊎_elim, List, ℕ, zero, suc, ◌^◌, ◌≤◌, ◌<◌, arith, get_or, length, take, ltb, lt-ltb, le-ltb}
use native.Mathlib.Numerals.{add-one}
use Rattle.std.specs.List.{fold}
use Rattle.std.proofs.lemmas.List.{take_all}
use Rattle.std.proofs.lemmas.List.Sums.{fold_more}
use lib.Bits.{bit_or, or_lt, or_add_and, and_le_l, and_le_r}
use lib.Pow.{pow_pos}
use borrow.Author.Tests.{ltb-true}
use Rattle.words.specs.Tests.{both}
use Rattle.words.specs.All.{all}
use Rattle.words.proofs.Cases.{le_or_lt}
use Rattle.words.proofs.AllLaws.{all_at}
use Rattle.payload_pack.specs.Pack.{fitting}
use Rattle.payload_pack.specs.inner.AnyBits.{any_bits}

or_over : (a b : ℕ) → (a ≤ bit_or a b) × (b ≤ bit_or a b)
or_over a b = (omega (arith, or_add_and a b, and_le_r a b), omega (arith, or_add_and a b, and_le_l a b))

-- of a whole list
joined_front : (n : ℕ) (l : List ℕ) → n ≤ length l → fold bit_or 0 (take n l) ≡ any_bits n l
unfolding any_bits
joined_front zero l q = refl
joined_front (suc n) l q =
    ap (λ (k : ℕ). fold bit_or 0 (take k l)) (sym (add-one n))
    ∙ fold_more bit_or 0 l n 0 (omega arith)
    ∙ ap (λ (x : ℕ). bit_or x (get_or l n 0)) (joined_front n l (omega arith))

pub joined_all : (l : List ℕ) → fold bit_or 0 l ≡ any_bits (length l) l
joined_all l = ap (fold bit_or 0) (sym (take_all (length l) l (omega arith))) ∙ joined_front (length l) l (omega arith)

-- all fit w bits exactly when the bits that any of them has do
joined_fit : (w n : ℕ) (l : List ℕ) → all n (λ k. ltb (get_or l k 0) (2 ^ w)) ≡ ltb (any_bits n l) (2 ^ w)
unfolding any_bits all
joined_fit w zero l = sym (lt-ltb 0 (2 ^ w) (pow_pos w))
joined_fit w (suc n) l =
    let a : ℕ = any_bits n l in
    let b : ℕ = get_or l n 0 in
    let o = or_over a b in
    ap (λ (t : Bool). both t (ltb b (2 ^ w))) (joined_fit w n l)
    ∙ ⊎_elim
    (λ (p : 2 ^ w ≤ a). rw (le-ltb a (2 ^ w) p, le-ltb (bit_or a b) (2 ^ w) (omega (arith, o.0))))
    (λ (p : a < 2 ^ w). rw (lt-ltb a (2 ^ w) p)
    (⊎_elim
    (λ (q : 2 ^ w ≤ b). rw (le-ltb b (2 ^ w) q, le-ltb (bit_or a b) (2 ^ w) (omega (arith, o.1))))
    (λ (q : b < 2 ^ w). rw (lt-ltb b (2 ^ w) q, lt-ltb (bit_or a b) (2 ^ w) (or_lt w a b p q)))
    (le_or_lt (2 ^ w) b)))
    (le_or_lt (2 ^ w) a)

pub fitting_joined : (w : ℕ) (l : List ℕ) → fitting w l ≡ ltb (any_bits (length l) l) (2 ^ w)
unfolding fitting
fitting_joined w l = joined_fit w (length l) l

pub fitting_each : (w : ℕ) (l : List ℕ) → fitting w l ≡ true → (k : ℕ) → k < length l → get_or l k 0 < 2 ^ w
unfolding fitting
fitting_each w l e k h = ltb-true (get_or l k 0) (2 ^ w) (all_at (λ j. ltb (get_or l j 0) (2 ^ w)) (length l) k h e)
