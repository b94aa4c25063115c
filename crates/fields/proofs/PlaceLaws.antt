-- Where a field stands. The words of a body from a place on, and the first of them. A field lies
-- inside where the words past its place suffice (`inside_cut`, `inside_whole`), and its place follows from the indicator with the bits up to
-- its own cleared (`place_above`).
use Rattle.words.proofs.Kit.{◌≡◌, sym, ap, ◌∙◌, false, ⊎_elim, List, [], ◌∷◌, ℕ, ◌+◌, ◌-◌, ◌*◌, ◌/◌, ◌%◌, ◌^◌, ◌≤◌, ◌<◌, arith}
use Rattle.words.proofs.Kit.{ne_eqb, le-leb, lt-leb, length, take, drop, get_or}
use native.Mathlib.Nat.{add-zero, mul_assoc, mod-lt, mod-eq_of_lt, div-mul-le_self, lt_of_le_of_lt, lt_of_lt_of_le}
use native.Mathlib.Numerals.{add-one}
use lib.ListN.{length-drop}
use lib.Pow.{pow_pos, pow_mono, pow-add, shl-shr}
use lib.Seq.{get_or-drop, take_all}
use Rattle.words.specs.Word.{has}
use Rattle.words.specs.SetBits.{bits_of}
use Rattle.words.proofs.Cases.{le_or_lt}
use Rattle.words.proofs.BitLaws.{has_low}
use Rattle.words.proofs.SetBitLaws.{has_above, bits_mod, bits_above}
use Rattle.fields.specs.Sizes.{words_of}
use Rattle.fields.specs.Layout.{span_of, indicator_of, place_of, inside_of}

-- ---- the words from a place on

pub first_word : (at : ℕ) (ws : List ℕ) → get_or (drop at ws) 0 0 ≡ get_or ws at 0
first_word at ws = get_or-drop at ws 0 0 ∙ ap (λ (i : ℕ). get_or ws i 0) (add-zero at)

pub rest_whole : (at : ℕ) (ws : List ℕ) → take (length ws - at) (drop at ws) ≡ drop at ws
rest_whole at ws = take_all (length ws - at) (drop at ws) (omega (arith, length-drop at ws))

-- ---- a field that lies inside its body, or not

pub inside_past : (b at : ℕ) (body : List ℕ) → length body < at → inside_of b at body ≡ []
unfolding inside_of
inside_past b at body h = rw (lt-leb (at + words_of b (drop at body)) (length body) (omega arith))

-- n words, found in the part of the body from the place on
module _ (b at n : ℕ) (body : List ℕ) (e : n ≡ words_of b (take (length body - at) (drop at body))) where
  words_there : words_of b (drop at body) ≡ n
  words_there = sym (e ∙ ap (words_of b) (rest_whole at body))

  pub inside_cut : length body - at < n → inside_of b at body ≡ []
  unfolding inside_of
  inside_cut h = rw (words_there, lt-leb (at + n) (length body) (omega arith))

  pub inside_whole : at ≤ length body → n ≤ length body - at → inside_of b at body ≡ at ∷ n ∷ []
  unfolding inside_of
  inside_whole g h = rw (words_there, le-leb (at + n) (length body) (omega arith))

-- ---- the place, by the indicator's bits above b, as a program clears the others

pub cleared_small : (w k : ℕ) → w < 2 ^ 32 → w / 2 ^ k * 2 ^ k % 2 ^ 32 ≡ w / 2 ^ k * 2 ^ k
cleared_small w k h = mod-eq_of_lt (lt_of_le_of_lt (div-mul-le_self w (2 ^ k)) h)

-- no bit up to b is left
pub cleared_bit : (w b i : ℕ) → w < 2 ^ 32 → i ≤ b → has (w / 2 ^ (b + 1) * 2 ^ (b + 1) % 2 ^ 32 % 2 ^ 31) i ≡ false
cleared_bit w b i h l =
    ⊎_elim
    (λ (g : 31 ≤ i). has_above _ i (lt_of_lt_of_le (mod-lt _ (pow_pos 31)) (pow_mono g)))
    (λ (g : i < 31).
    let m : ℕ = w / 2 ^ (b + 1) in
    let j : (b - i) + (1 + i) ≡ b + 1 = omega arith in
    let apart : m * 2 ^ (b + 1) ≡ m * 2 ^ (b - i) * 2 * 2 ^ i =
    ap (λ (k : ℕ). m * 2 ^ k) (sym j) ∙ rw (pow-add 2 (b - i) (1 + i), pow-add 2 1 i, ← mul_assoc, ← mul_assoc) in
    has_low _ 31 i g ∙ ap (λ (k : ℕ). has k i) (cleared_small w (b + 1) h ∙ apart)
    ∙ rw (shl-shr (m * 2 ^ (b - i) * 2) i) (ne_eqb (m * 2 ^ (b - i) * 2 % 2) 1 (λ e. omega arith)))
    (le_or_lt 31 i)

pub place_above : (w b at : ℕ) (body : List ℕ) → w ≡ indicator_of body → w < 2 ^ 32
    → at ≡ 1 + span_of (bits_of 31 (w / 2 ^ (b + 1) * 2 ^ (b + 1) % 2 ^ 32 % 2 ^ 31)) (drop 1 body) → at ≡ place_of b body
unfolding place_of
place_above w b at body e h g =
    g ∙ rw (cleared_small w (b + 1) h, bits_mod 31 (w / 2 ^ (b + 1) * 2 ^ (b + 1)), add-one b, bits_above 31 b w, e)
