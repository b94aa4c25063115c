-- The words as one big number, the first word at the left: the stream of all their bits is that number's (`by_value`).
use Rattle.words.proofs.Kit.{◌≡◌, refl, sym, ap, ap₂, ◌∙◌, List, [], ◌∷◌, ℕ, zero, suc, ◌+◌, ◌-◌, ◌*◌, ◌/◌, ◌%◌, ◌^◌, ◌≤◌, ◌<◌, arith, get_or, length}
use native.Mathlib.Nat.{zero-add, add-mul-div_right, add-mod_right, one-mul}
use native.Mathlib.Numerals.{add-one}
use Rattle.bitstream.specs.Stream.{bit, span}
use Rattle.bitstream.specs.BigNumber.{value}
use Rattle.bitstream.proofs.SpanLaws.{split, within, whole}

-- a stream without its first digit
shift : (b : ℕ) (g : ℕ → ℕ) → 0 < b → (p n : ℕ) → span b g (b + p) n ≡ span b (λ j. g (suc j)) p n
unfolding span bit
shift b g h p zero = refl
shift b g h p (suc n) =
    let e : b + p + n ≡ p + n + 1 * b = omega arith in
    let q : (b + p + n) / b ≡ suc ((p + n) / b) = ap (λ (x : ℕ). x / b) e ∙ add-mul-div_right (p + n) 1 h ∙ add-one ((p + n) / b) in
    let r : (b + p + n) % b ≡ (p + n) % b = ap (λ (x : ℕ). x % b) (e ∙ ap (λ (x : ℕ). p + n + x) (one-mul b)) ∙ add-mod_right (p + n) b in
    ap₂ (λ (x y : ℕ). x * 2 + y) (shift b g h p n) (ap₂ (λ (x y : ℕ). g x / 2 ^ (b - (y + 1)) % 2) q r)

value_is : (ws : List ℕ) → ((j : ℕ) → get_or ws j 0 < 2 ^ 32) → span 32 (λ j. get_or ws j 0) 0 (length ws * 32) ≡ value ws
unfolding value span
value_is [] h = refl
value_is (w ∷ ws) h =
    let e : suc (length ws) * 32 ≡ 32 + length ws * 32 = omega arith in
    let g : ℕ → ℕ = λ j. get_or (w ∷ ws) j 0 in
    ap (span 32 g 0) e
    ∙ split 32 g 0 32 (length ws * 32)
    ∙ ap₂ (λ (x y : ℕ). x * 2 ^ (length ws * 32) + y) (whole 32 g 0 (h 0)) (shift 32 g (omega arith) 0 (length ws * 32) ∙ value_is ws (λ j. h (suc j)))

pub by_value : (ws : List ℕ) → ((j : ℕ) → get_or ws j 0 < 2 ^ 32) → (p f : ℕ) → p + f ≤ length ws * 32
    → span 32 (λ j. get_or ws j 0) p f ≡ value ws / 2 ^ (length ws * 32 - (p + f)) % 2 ^ f
by_value ws h p f l =
    ap (λ (x : ℕ). span 32 (λ j. get_or ws j 0) x f) (sym (zero-add p))
    ∙ sym (within 32 (λ j. get_or ws j 0) 0 (length ws * 32) p f l)
    ∙ ap (λ (x : ℕ). x / 2 ^ (length ws * 32 - (p + f)) % 2 ^ f) (value_is ws h)
