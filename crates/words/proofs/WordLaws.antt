-- A word and its fields, once over any widths: joined and split again, split and joined again, and the fields by the numbers of their bits.
use Rattle.words.proofs.Kit.{◌≡◌, refl, sym, ap, ◌∙◌, List, [], ◌∷◌, ℕ, ◌+◌, ◌*◌, ◌/◌, ◌%◌, ◌^◌, ◌<◌}
use native.Mathlib.Nat.{mul_comm, add_comm, div-one}
use lib.Arith.{lt-one}
use lib.Pow.{shr_lt, shr-shr, high, low}
use lib.Pow as Pow
use Rattle.words.specs.Word.{join, split, total, Within}

pub join_split : (ws : List ℕ) (n : ℕ) → n < 2 ^ total ws → join ws (split ws n) ≡ n
unfolding join split total
join_split [] n h = sym (lt-one h)
join_split (w ∷ ws) n h =
    ap (λ (k : ℕ). n % 2 ^ w + 2 ^ w * k) (join_split ws (n / 2 ^ w) (shr_lt (total ws) w (rw (add_comm (total ws) w) h)))
    ∙ add_comm (n % 2 ^ w) (2 ^ w * (n / 2 ^ w))
    ∙ ap (λ (k : ℕ). k + n % 2 ^ w) (mul_comm (2 ^ w) (n / 2 ^ w))
    ∙ Pow.split n w

pub split_join : (ws fs : List ℕ) → Within ws fs → split ws (join ws fs) ≡ fs
unfolding join split
split_join [] [] h = refl
split_join [] (f ∷ fs) h = absurd h
split_join (w ∷ ws) [] h = absurd h
split_join (w ∷ ws) (f ∷ fs) h =
    let e : f + 2 ^ w * join ws fs ≡ join ws fs * 2 ^ w + f = add_comm f (2 ^ w * join ws fs) ∙ ap (λ (k : ℕ). k + f) (mul_comm (2 ^ w) (join ws fs)) in
    rw (e, low (join ws fs) w h.0, high (join ws fs) w h.0) (ap (λ (l : List ℕ). f ∷ l) (split_join ws fs h.1))

-- the fields by the numbers of their bits, the first from bit k on
abbrev pub fields_from : ℕ → List ℕ → ℕ → List ℕ
fields_from k [] n = []
fields_from k (w ∷ ws) n = n / 2 ^ k % 2 ^ w ∷ fields_from (k + w) ws n

pub split_fields : (ws : List ℕ) (n k : ℕ) → split ws (n / 2 ^ k) ≡ fields_from k ws n
unfolding split
split_fields [] n k = refl
split_fields (w ∷ ws) n k = ap (λ (l : List ℕ). n / 2 ^ k % 2 ^ w ∷ l) (ap (split ws) (shr-shr n k w) ∙ split_fields ws n (k + w))

pub split_from : (ws : List ℕ) (n : ℕ) → split ws n ≡ fields_from 0 ws n
split_from ws n = ap (split ws) (sym (div-one n)) ∙ split_fields ws n 0
