-- Words of which c bits carry packing fields. The idea: writing and reading are one regrouping of a stream, from digits of f bits to digits of c bits
-- and back (`field_back`, `word_back`), so the round trip is proved once over both widths.
use Rattle.words.proofs.Kit.{◌≡◌, sym, ap, ap₂, ◌∙◌, subst, ⊎_elim, List, ℕ, suc, ◌+◌, ◌-◌, ◌*◌, ◌/◌, ◌%◌, ◌^◌, ◌≤◌, ◌<◌, arith, get_or}
use native.Mathlib.Nat.{mul_comm, mul-add, mul-le-mul_left, lt_of_mul-lt-mul_right, div-add-mod', mod-lt, div-one, zero-div}
use native.Mathlib.Nat.{mul-mod_left, le-div_iff_mul-le}
use lib.Arith.{digits_div}
use lib.Pow.{shr-shr, shl-shr, shl_lt, shr_lt}
use lib.Pow as Pow
use Rattle.words.specs.Word.{high_first}
use Rattle.words.proofs.Cases.{le_or_lt}
use Rattle.bitstream.specs.Stream.{bit, span}
use Rattle.bitstream.specs.Carried.{stream_bits, packing_field, word_of, needed}
use Rattle.bitstream.proofs.SpanLaws.{split, below, inside, same, regroup_bit, regroup, whole, blank, zero_bits}

pub carried_below : (c : ℕ) (ws : List ℕ) (j : ℕ) → c ≤ 32 → get_or ws j 0 < 2 ^ 32 → stream_bits c ws j < 2 ^ c
unfolding stream_bits
carried_below c ws j l h =
    let e : 32 ≡ c + (32 - c) = omega arith in
    shr_lt c (32 - c) (subst (λ (x : ℕ). get_or ws j 0 < 2 ^ x) e h)

-- a word whose other bits are 0 is what it carries
carried_back : (c : ℕ) (ws : List ℕ) (j : ℕ) → get_or ws j 0 % 2 ^ (32 - c) ≡ 0 → stream_bits c ws j * 2 ^ (32 - c) ≡ get_or ws j 0
unfolding stream_bits
carried_back c ws j u = omega (arith, Pow.split (get_or ws j 0) (32 - c))

-- ---- bits of the words, where they lie within one
pub carried_all : (ws : List ℕ) (p n : ℕ) → span 32 (stream_bits 32 ws) p n ≡ span 32 (λ j. get_or ws j 0) p n
unfolding stream_bits
carried_all ws p n = ap (λ (g : ℕ → ℕ). span 32 g p n) (λ i j. div-one (get_or ws j 0) i)

pub carried_one : (c : ℕ) (ws : List ℕ) (i o n : ℕ) → c ≤ 32 → o + n ≤ c → span c (stream_bits c ws) (i * c + o) n ≡ get_or ws i 0 / 2 ^ (32 - (o + n)) % 2 ^ n
unfolding stream_bits
carried_one c ws i o n l h =
    let e : 32 - c + (c - (o + n)) ≡ 32 - (o + n) = omega arith in
    inside c (stream_bits c ws) i o n h
    ∙ ap (λ (x : ℕ). x % 2 ^ n) (shr-shr (get_or ws i 0) (32 - c) (c - (o + n)))
    ∙ ap (λ (x : ℕ). get_or ws i 0 / 2 ^ x % 2 ^ n) e

-- ---- fields of whole words
module _ (ws : List ℕ) (h : (j : ℕ) → get_or ws j 0 < 2 ^ 32) (k : ℕ) where
  pub field_word : packing_field 32 32 ws k ≡ get_or ws k 0
  unfolding packing_field
  field_word = carried_all ws (32 * k) 32 ∙ ap (λ (x : ℕ). span 32 (λ j. get_or ws j 0) x 32) (mul_comm 32 k) ∙ whole 32 (λ j. get_or ws j 0) k (h k)

  pub field_words : packing_field 32 64 ws k ≡ high_first (get_or ws (2 * k) 0) (get_or ws (2 * k + 1) 0)
  unfolding packing_field
  field_words =
      let g : ℕ → ℕ = λ j. get_or ws j 0 in
      let a : 64 * k ≡ 2 * k * 32 = omega arith in
      let b : 2 * k * 32 + 32 ≡ (2 * k + 1) * 32 = omega arith in
      carried_all ws (64 * k) 64
      ∙ ap (λ (x : ℕ). span 32 g x 64) a
      ∙ split 32 g (2 * k * 32) 32 32
      ∙ ap₂ (λ (x y : ℕ). x * 2 ^ 32 + y) (whole 32 g (2 * k) (h (2 * k))) (ap (λ (x : ℕ). span 32 g x 32) b ∙ whole 32 g (2 * k + 1) (h (2 * k + 1)))

-- ---- how many words are needed
pub enough : (c f n : ℕ) → 0 < c → f * n ≤ needed c f n * c
unfolding needed
enough c f n h = omega (arith, div-add-mod' (f * n + (c - 1)) c, mod-lt (f * n + (c - 1)) h)

pub none_over : (c f n : ℕ) → 0 < c → needed c f n * c < f * n + c
unfolding needed
none_over c f n h = omega (arith, div-add-mod' (f * n + (c - 1)) c)

pub needed_even : (c f n a : ℕ) → 0 < c → c * a + 0 ≡ f * n → needed c f n ≡ a
unfolding needed
needed_even c f n a pc e =
    ap (λ (x : ℕ). x / c) (omega (arith, mul_comm c a)) ∙ digits_div a {m = c} {r = c - 1} (omega arith)

pub needed_odd : (c f n a h : ℕ) → suc h < c → c * a + suc h ≡ f * n → needed c f n ≡ a + 1
unfolding needed
needed_odd c f n a h l e =
    let q : f * n + (c - 1) ≡ (a + 1) * c + h = omega (arith, mul_comm c a, mul_comm c (a + 1), mul-add c a 1) in
    ap (λ (x : ℕ). x / c) q ∙ digits_div (a + 1) {m = c} {r = h} (omega arith)

-- a word that a field reaches into is there
pub room_at : (c a h w l : ℕ) → 0 < c → h < w → c * a + w ≤ l * c + h → a < l
room_at c a h w l pc k r = lt_of_mul-lt-mul_right c (omega (arith, mul_comm c a))

-- ---- the round trip of fields, and of words
pub field_back : (c f m n : ℕ) (g : ℕ → ℕ) (ws : List ℕ) → 0 < c → f * n ≤ m * c → ((j : ℕ) → j < m → get_or ws j 0 ≡ word_of c f g j)
    → (k : ℕ) → k < n → g k < 2 ^ f → packing_field c f ws k ≡ g k
unfolding packing_field word_of stream_bits
field_back c f m n g ws pc l e k h b =
    same c m (stream_bits c ws) (λ j. span f g (c * j) c) pc
    (λ j q. ap (λ (x : ℕ). x / 2 ^ (32 - c)) (e j q) ∙ shl-shr (span f g (c * j) c) (32 - c))
    (f * k) f (omega (arith, mul-le-mul_left f h, mul-add f k 1))
    ∙ regroup f c g pc (f * k) f
    ∙ ap (λ (x : ℕ). span f g x f) (mul_comm f k)
    ∙ whole f g k b

-- the stream of the fields g is that of the words, up to the end of field n - 1
spans_back : (c f n : ℕ) (g : ℕ → ℕ) (ws : List ℕ) → 0 < f → ((k : ℕ) → k < n → g k ≡ packing_field c f ws k)
    → (p m : ℕ) → p + m ≤ n * f → span f g p m ≡ span c (stream_bits c ws) p m
unfolding packing_field
spans_back c f n g ws pf e p m l = same f n g (λ k. span c (stream_bits c ws) (f * k) f) pf e p m l ∙ regroup c f (stream_bits c ws) pf p m

-- word j comes back where the bits past the last field are 0, and those that carry nothing
pub word_back : (c f n : ℕ) (g : ℕ → ℕ) (ws : List ℕ) (j : ℕ) → 0 < f → 0 < c → c ≤ 32
    → ((k : ℕ) → k < n → g k ≡ packing_field c f ws k) → ((k : ℕ) → n ≤ k → g k ≡ 0)
    → ((i : ℕ) → f * n ≤ i → bit c (stream_bits c ws) i ≡ 0) → get_or ws j 0 < 2 ^ 32 → get_or ws j 0 % 2 ^ (32 - c) ≡ 0 → word_of c f g j ≡ get_or ws j 0
unfolding word_of
word_back c f n g ws j pf pc mc e z pad b u =
    let G : ℕ → ℕ = stream_bits c ws in
    let past : (p m : ℕ) → n * f ≤ p → span f g p m ≡ span c G p m =
    λ p m l. blank f n g pf z p m l ∙ sym (zero_bits c G (f * n) pad p m (omega (arith, mul_comm f n))) in
    let all : span f g (c * j) c ≡ span c G (c * j) c =
    ⊎_elim
    (λ (l : c * j + c ≤ n * f). spans_back c f n g ws pf e (c * j) c l)
    (λ (l : n * f < c * j + c).
    ⊎_elim
    (λ (s : n * f ≤ c * j). past (c * j) c s)
    (λ (s : c * j < n * f).
    let h : ℕ = n * f - c * j in
    let q : h + (c - h) ≡ c = omega arith in
    let t : span f g (c * j) (h + (c - h)) ≡ span c G (c * j) (h + (c - h)) =
    split f g (c * j) h (c - h)
    ∙ ap₂ (λ (x y : ℕ). x * 2 ^ (c - h) + y) (spans_back c f n g ws pf e (c * j) h (omega arith)) (past (c * j + h) (c - h) (omega arith))
    ∙ sym (split c G (c * j) h (c - h)) in
    subst (λ (x : ℕ). span f g (c * j) x ≡ span c G (c * j) x) q t)
    (le_or_lt (n * f) (c * j)))
    (le_or_lt (c * j + c) (n * f)) in
    let w : span c G (c * j) c ≡ G j = ap (λ (x : ℕ). span c G x c) (mul_comm c j) ∙ whole c G j (carried_below c ws j mc b) in
    ap (λ (x : ℕ). x * 2 ^ (32 - c)) (all ∙ w) ∙ carried_back c ws j u

-- ---- words as a writer makes them
pub word_below : (c f : ℕ) (g : ℕ → ℕ) (j : ℕ) → c ≤ 32 → word_of c f g j < 2 ^ 32
unfolding word_of
word_below c f g j l =
    let e : c + (32 - c) ≡ 32 = omega arith in
    subst (λ (x : ℕ). span f g (c * j) c * 2 ^ (32 - c) < 2 ^ x) e (shl_lt c (32 - c) (below f g (c * j) c))

-- zero in the bits that carry nothing
pub word_uncarried : (c f : ℕ) (g : ℕ → ℕ) (j : ℕ) → word_of c f g j % 2 ^ (32 - c) ≡ 0
unfolding word_of
word_uncarried c f g j = mul-mod_left (span f g (c * j) c) (2 ^ (32 - c))

-- and past the last field
pub word_padding : (c f m n : ℕ) (g : ℕ → ℕ) (ws : List ℕ) → 0 < c → 0 < f → f * n ≤ m * c
    → ((j : ℕ) → j < m → get_or ws j 0 ≡ word_of c f g j) → ((j : ℕ) → m ≤ j → get_or ws j 0 ≡ 0) → ((k : ℕ) → n ≤ k → g k ≡ 0)
    → (i : ℕ) → f * n ≤ i → bit c (stream_bits c ws) i ≡ 0
unfolding bit stream_bits word_of
word_padding c f m n g ws pc pf l e past z i h =
    let j : ℕ = i / c in
    let digit : get_or ws j 0 / 2 ^ (32 - c) ≡ span f g (c * j) c =
    ⊎_elim
    (λ (q : m ≤ j).
    ap (λ (x : ℕ). x / 2 ^ (32 - c)) (past j q) ∙ zero-div (2 ^ (32 - c))
    ∙ sym (blank f n g pf z (c * j) c (omega (arith, mul-le-mul_left c q, mul_comm c m, mul_comm f n))))
    (λ (q : j < m). ap (λ (x : ℕ). x / 2 ^ (32 - c)) (e j q) ∙ shl-shr (span f g (c * j) c) (32 - c))
    (le_or_lt m j) in
    let none : g (i / f) ≡ 0 = z (i / f) ((le-div_iff_mul-le pf).1 (omega (arith, mul_comm f n))) in
    ap (λ (x : ℕ). x / 2 ^ (c - (i % c + 1)) % 2) digit
    ∙ regroup_bit f c g i pc
    ∙ ap (λ (x : ℕ). x / 2 ^ (f - (i % f + 1)) % 2) none
    ∙ ap (λ (x : ℕ). x % 2) (zero-div (2 ^ (f - (i % f + 1))))
