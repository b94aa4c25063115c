-- A copy of words. The idea: after i turns the list is the first i words copied, then the old words from i on (`copy_more`); a part is copied by
-- lending it (`copied_part`); and a piece that stands right behind another, copied after it, makes one longer piece (`copied_then`).
use Rattle.words.proofs.Kit.{◌≡◌, refl, sym, ap, ◌∙◌, List, ◌++◌, ℕ, suc, ◌+◌, ◌-◌, ◌≤◌, ◌<◌, arith, length, take, drop, get_or, set}
use mathlib.Core.List.{append_assoc, append-nil}
use native.Mathlib.Nat.{le_of_lt}
use native.Mathlib.Numerals.{add-one}
use lib.ListN.{length-append}
use lib.Seq.{length-take-le, drop-cons, drop-drop, set_at, take-add, take-suc, drop-length, take_all}
use Rattle.words.specs.Part.{part, put}
use Rattle.words.proofs.PartLaws.{seen, lent, set_put, put_at, part_length}

pub copy_more : (d s : List ℕ) (i : ℕ) → i < length d → i < length s → set (take i s ++ drop i d) i (get_or s i 0) ≡ take (i + 1) s ++ drop (i + 1) d
copy_more d s i hd hs =
    let l : length (take i s) ≡ i = length-take-le i s (le_of_lt hs) in
    rw (add-one, drop-cons d i 0, set_at (take i s) (get_or d i 0) (drop (suc i) d) (get_or s i 0) i, take-suc s i 0, append_assoc)

pub copied_all : (d s : List ℕ) → take (length d) s ++ drop (length d) d ≡ take (length d) s
copied_all d s = rw (drop-length d, append-nil)

pub copied_part : (dst src last : List ℕ) (d s n : ℕ) → d + n ≤ length dst → s + n ≤ length src
    → last ≡ take (length (take (d + n - d) (drop d dst))) (take (s + n - s) (drop s src))
    → take d dst ++ (last ++ drop (d + n - d) (drop d dst)) ≡ put d n (part s n src) dst
copied_part dst src last d s n h g e =
    let l : length (part s n src) ≤ n = omega (arith, part_length s n src g) in
    let w : last ≡ part s n src =
    e ∙ rw (seen d (d + n) n dst refl, seen s (s + n) n src refl, part_length d n dst h) (take_all n (part s n src) l) in
    rw w (lent d (d + n) n (part s n src) dst refl)

-- ---- copied piece by piece

-- one word
pub copied_one : (d s : ℕ) (ws xs : List ℕ) → d + 1 ≤ length xs → s + 1 ≤ length ws → set xs d (get_or ws s 0) ≡ put d 1 (part s 1 ws) xs
unfolding part
copied_one d s ws xs h g = rw (drop-cons ws s 0 (omega arith)) (set_put d (get_or ws s 0) xs (omega arith))

-- n words, and then m behind them
pub copied_then : (n m d s : ℕ) (ws xs mid last : List ℕ) → d + (n + m) ≤ length xs → s + (n + m) ≤ length ws → mid ≡ put d n (part s n ws) xs
    → last ≡ put (d + n) m (part (s + n) m ws) mid → last ≡ put d (n + m) (part s (n + m) ws) xs
unfolding part put
copied_then n m d s ws xs mid last h g e f =
    let p : List ℕ = take d xs in
    let y : List ℕ = part s n ws in
    let z : List ℕ = part (s + n) m ws in
    let q : List ℕ = drop n (drop d xs) in
    let lp : length (p ++ y) ≡ d + n = simp (length-append, length-take-le d xs (omega arith), part_length s n ws (omega arith)) in
    let yz : y ++ z ≡ part s (n + m) ws = ap (λ (l : List ℕ). y ++ take m l) (sym (drop-drop n s ws)) ∙ sym (take-add n m (drop s ws)) in
    let rest : drop m q ≡ drop (n + m) (drop d xs) = drop-drop m n (drop d xs) in
    f ∙ ap (put (d + n) m z) (e ∙ sym (append_assoc p y q)) ∙ put_at (d + n) m (p ++ y) q z lp ∙ append_assoc p y (z ++ drop m q)
    ∙ ap (λ (l : List ℕ). p ++ l) (sym (append_assoc y z (drop m q)) ∙ rw (yz, rest))

-- eleven words, in three pieces
pub copied_eleven : (d s : ℕ) (ws xs eight ten last : List ℕ) → d + 11 ≤ length xs → s + 11 ≤ length ws → eight ≡ put d 8 (part s 8 ws) xs
    → ten ≡ put (d + 8) 2 (part (s + 8) 2 ws) eight → last ≡ put (d + 10) 1 (part (s + 10) 1 ws) ten → last ≡ put d 11 (part s 11 ws) xs
copied_eleven d s ws xs eight ten last h g e t l =
    copied_then 10 1 d s ws xs ten last h g (copied_then 8 2 d s ws xs eight ten (omega arith) (omega arith) e t) l
