-- Fields read by their places. The idea: n bits from bit o of a word on are those of the words that hold n bits, without their first o, and then the
-- first o bits of the next word (`window`); a field is the front of such bits, and its item is the front of the field (`item_here`, `field_here`).
use Rattle.words.proofs.Kit.{◌≡◌, refl, sym, ap, ap₂, ◌∙◌, subst, List, ℕ, ◌+◌, ◌-◌, ◌*◌, ◌/◌, ◌%◌, ◌^◌, ◌≤◌, ◌<◌, arith, get_or, length, set}
use native.Mathlib.Nat.{div-one, zero-div, add-zero, div-add-mod', mod-eq_of_lt, add-mul, mul_comm, mod-lt, mul-le-mul_left, mul-le-mul_right}
use lib.ListN.{get_or-eq_default}
use lib.Pow.{shr_le, shr_lt, shr-shr}
use Rattle.words.proofs.Kit.{⊎_elim}
use Rattle.words.proofs.Cases.{le_or_lt}
use Rattle.words.specs.Word.{high_first}
use Rattle.bitstream.specs.Stream.{span}
use Rattle.bitstream.specs.Carried.{stream_bits, packing_field}
use Rattle.bitstream.specs.Filled.{filled}
use Rattle.bitstream.specs.inner.FilledOn.{FilledOn}
use Rattle.bitstream.proofs.SpanLaws.{split, first, below, whole}
use Rattle.bitstream.proofs.AccumulatorLaws.{append_below, appended, left}
use Rattle.bitstream.proofs.FilledLaws.{filled_more, filled_whole}
use Rattle.payload_format.specs.declared.inner.Packing.{Packing}
use Rattle.payload_format.specs.Field.{field_in, item_in}
use Rattle.payload_unpack.specs.inner.Unpackable.{Unpackable, Placed}

-- ---- words joined: x without its first o bits, and behind it the first o bits of the word y
next_below : (y o : ℕ) → o < 32 → y < 2 ^ 32 → y / 2 ^ (32 - o) < 2 ^ o
next_below y o h l =
    let e : 32 ≡ o + (32 - o) = omega arith in
    shr_lt o (32 - o) (subst (λ (z : ℕ). y < 2 ^ z) e l)

joined_below : (x y n o : ℕ) → o ≤ n → o < 32 → y < 2 ^ 32 → x * 2 ^ o % 2 ^ n + y / 2 ^ (32 - o) < 2 ^ n
joined_below x y n o some few small = append_below x (y / 2 ^ (32 - o)) o n some (next_below y o few small)

pub join_wide_below : (x y o : ℕ) → o < 32 → y < 2 ^ 32 → x * 2 ^ o % 2 ^ 64 + y / 2 ^ (32 - o) < 2 ^ 64
join_wide_below x y o h small = joined_below x y 64 o (omega arith) h small

-- in two shifts, of which neither is by 32
two_shifts : (y o : ℕ) → o < 32 → y / 2 / 2 ^ (31 - o) ≡ y / 2 ^ (32 - o)
two_shifts y o h =
    let e : 1 + (31 - o) ≡ 32 - o = omega arith in
    shr-shr y 1 (31 - o) ∙ ap (λ (z : ℕ). y / 2 ^ z) e

pub join_below : (x y o : ℕ) → o < 32 → y < 2 ^ 32 → x * 2 ^ o % 2 ^ 32 + y / 2 / 2 ^ (31 - o) < 2 ^ 32
join_below x y o h small = rw (two_shifts y o h) (joined_below x y 32 o (omega arith) h small)

pub join_is : (x y o : ℕ) → o < 32 → x * 2 ^ o % 2 ^ 32 + y / 2 / 2 ^ (31 - o) ≡ x * 2 ^ o % 2 ^ 32 + y / 2 ^ (32 - o)
join_is x y o h = ap (λ (z : ℕ). x * 2 ^ o % 2 ^ 32 + z) (two_shifts y o h)

-- n bits are m words x, from word i on; y is the next word
module _ (g : ℕ → ℕ) (i m n o x y : ℕ) (size : n ≡ m * 32) (some : o ≤ n) (few : o < 32) where
  module _ (front : x ≡ span 32 g (i * 32) n) (next : y ≡ g (i + m)) (small : y < 2 ^ 32) where
    -- the first o bits of the next word
    behind : y / 2 ^ (32 - o) ≡ span 32 g (i * 32 + o + (n - o)) o
    behind =
        let e : o + (32 - o) ≡ 32 = omega arith in
        let q : (i + m) * 32 ≡ i * 32 + o + (n - o) = omega arith in
        let word : y ≡ span 32 g ((i + m) * 32) (o + (32 - o)) =
        next ∙ sym (whole 32 g (i + m) (subst (λ (z : ℕ). z < 2 ^ 32) next small)) ∙ ap (span 32 g ((i + m) * 32)) (sym e) in
        ap (λ (z : ℕ). z / 2 ^ (32 - o)) word ∙ first 32 g ((i + m) * 32) o (32 - o) ∙ ap (λ (z : ℕ). span 32 g z o) q

    window : x * 2 ^ o % 2 ^ n + y / 2 ^ (32 - o) ≡ span 32 g (i * 32 + o) n
    window =
        let e : n - o + o ≡ n = omega arith in
        let held : x % 2 ^ n ≡ span 32 g (i * 32) n = ap (λ (z : ℕ). z % 2 ^ n) front ∙ mod-eq_of_lt (below 32 g (i * 32) n) in
        sym (mod-eq_of_lt (joined_below x y n o some few small))
        ∙ ap (λ (z : ℕ). (x * 2 ^ o % 2 ^ n + y / 2 ^ (32 - o)) % 2 ^ z) (sym e)
        ∙ appended 32 g x (i * 32 + o) (n - o) (left 32 g x (i * 32) n held o some) (y / 2 ^ (32 - o)) o n (omega arith) (next_below y o few small) behind
        ∙ ap (span 32 g (i * 32 + o)) e

-- ---- bits of words, from bit b on
module _ (ws : List ℕ) (small : (j : ℕ) → get_or ws j 0 < 2 ^ 32) where
  word_is : (j : ℕ) → get_or ws j 0 ≡ stream_bits 32 ws j
  unfolding stream_bits
  word_is j = sym (div-one (get_or ws j 0))

  one_word : (i : ℕ) → get_or ws i 0 ≡ span 32 (stream_bits 32 ws) (i * 32) 32
  one_word i = word_is i ∙ sym (whole 32 (stream_bits 32 ws) i (subst (λ (z : ℕ). z < 2 ^ 32) (word_is i) (small i)))

  two_words_lem : (i : ℕ) → high_first (get_or ws i 0) (get_or ws (i + 1) 0) ≡ span 32 (stream_bits 32 ws) (i * 32) 64
  two_words_lem i =
      let e : (i + 1) * 32 ≡ i * 32 + 32 = omega arith in
      ap₂ (λ (x y : ℕ). x * 2 ^ 32 + y) (one_word i) (one_word (i + 1) ∙ ap (λ (z : ℕ). span 32 (stream_bits 32 ws) z 32) e)
      ∙ sym (split 32 (stream_bits 32 ws) (i * 32) 32 32)

  -- of m words, which are x, and the next, which is y
  bits_from : (b m n x y : ℕ) → n ≡ m * 32 → b % 32 ≤ n → x ≡ span 32 (stream_bits 32 ws) (b / 32 * 32) n → y ≡ get_or ws (b / 32 + m) 0
      → x * 2 ^ (b % 32) % 2 ^ n + y / 2 ^ (32 - b % 32) ≡ span 32 (stream_bits 32 ws) b n
  bits_from b m n x y size some front next =
      window (stream_bits 32 ws) (b / 32) m n (b % 32) x y size some (omega arith) front (next ∙ word_is (b / 32 + m)) (rw next (small (b / 32 + m)))
      ∙ ap (λ (z : ℕ). span 32 (stream_bits 32 ws) z n) (div-add-mod' b 32)

  pub bits_are : (b r : ℕ) → r ≡ get_or ws (b / 32) 0 * 2 ^ (b % 32) % 2 ^ 32 + get_or ws (b / 32 + 1) 0 / 2 ^ (32 - b % 32) → r
      ≡ span 32 (stream_bits 32 ws) b 32
  bits_are b r e = e ∙ bits_from b 1 32 (get_or ws (b / 32) 0) (get_or ws (b / 32 + 1) 0) (omega arith) (omega arith) (one_word (b / 32)) refl

  pub bits_wide_are : (b x y r : ℕ) → x ≡ high_first (get_or ws (b / 32) 0) (get_or ws (b / 32 + 1) 0) → y ≡ get_or ws (b / 32 + 2) 0
      → r ≡ x * 2 ^ (b % 32) % 2 ^ 64 + y / 2 ^ (32 - b % 32) → r ≡ span 32 (stream_bits 32 ws) b 64
  bits_wide_are b x y r front next e = e ∙ bits_from b 2 64 x y (omega arith) (omega arith) (front ∙ two_words_lem (b / 32)) next

  -- b lies in the last word
  bits_last_are : (b : ℕ) → b < length ws * 32 → length ws * 32 ≤ b + 32 → get_or ws (length ws - 1) 0 * 2 ^ (b % 32) % 2 ^ 32
      ≡ span 32 (stream_bits 32 ws) b 32
  bits_last_are b inside last =
      let e : length ws - 1 ≡ b / 32 = omega arith in
      let x : ℕ = get_or ws (b / 32) 0 * 2 ^ (b % 32) % 2 ^ 32 in
      let none : 0 ≡ get_or ws (b / 32 + 1) 0 = sym (get_or-eq_default ws 0 (omega arith)) in
      ap (λ (z : ℕ). get_or ws z 0 * 2 ^ (b % 32) % 2 ^ 32) e
      ∙ sym (ap (λ (z : ℕ). x + z) (zero-div (2 ^ (32 - b % 32))) ∙ add-zero x)
      ∙ bits_from b 1 32 (get_or ws (b / 32) 0) 0 (omega arith) (omega arith) (one_word (b / 32)) none

-- ---- fields and their items
front_of : (g : ℕ → ℕ) (b n w : ℕ) → w ≤ n → span 32 g b n / 2 ^ (n - w) ≡ span 32 g b w
front_of g b n w h =
    let e : w + (n - w) ≡ n = omega arith in
    ap (λ (z : ℕ). span 32 g b z / 2 ^ (n - w)) (sym e) ∙ first 32 g b w (n - w)

-- v is n bits from the place of field k on
module _ (p : Packing) (ws : List ℕ) (n k v : ℕ) (c : p.carry ≡ 32) (e : v ≡ span 32 (stream_bits 32 ws) (k * p.field) n) where
  front_field : p.field ≤ n → v / 2 ^ (n - p.field) ≡ field_in p ws k
  unfolding packing_field
  front_field l =
      rw c
      (ap (λ (z : ℕ). z / 2 ^ (n - p.field)) (e ∙ ap (λ (z : ℕ). span 32 (stream_bits 32 ws) z n) (mul_comm k p.field))
      ∙ front_of (stream_bits 32 ws) (p.field * k) n p.field l)

  front_item : p.item ≤ p.field → p.field ≤ n → v / 2 ^ (n - p.item) ≡ item_in p (field_in p ws k)
  front_item f l =
      let s : n - p.field + (p.field - p.item) ≡ n - p.item = omega arith in
      ap (λ (z : ℕ). v / 2 ^ z) (sym s)
      ∙ sym (shr-shr v (n - p.field) (p.field - p.item))
      ∙ ap (λ (z : ℕ). z / 2 ^ (p.field - p.item)) (front_field l)

-- a word shifted to the right
pub shifted : (v x d : ℕ) → v ≡ x → v / 2 ^ d ≡ x / 2 ^ d
shifted v x d e = ap (λ (z : ℕ). z / 2 ^ d) e

pub shifted_small : (v d : ℕ) → v < 2 ^ 32 → v / 2 ^ d < 2 ^ 64
shifted_small v d l = omega (arith, shr_le v d)

-- ---- fields of at most 32 bits
pub place_small : (f n k : ℕ) → f ≤ 64 → n ≤ 2097120 → k ≤ n → k * f < 2 ^ 32
place_small f n k h l q = omega (arith, mul-le-mul_left k h)

module _ {p : Packing} {n room : ℕ} {ws : List ℕ} (u : Placed p n ws room) where
  all_there : n * p.field ≤ length ws * 32
  all_there = let t = rw u.whole at u.given.there in omega (arith, mul_comm p.field n)

  none_past : length ws * 32 < n * p.field + 32
  none_past = let t = rw u.whole at u.given.none_over in omega (arith, mul_comm p.field n)

  pub words_few : length ws < 2 ^ 32
  words_few = omega (arith, none_past, place_small p.field n n u.given.legal.few u.given.few (omega arith))

  -- there is a last word
  pub words_some : 0 < length ws
  words_some = omega (arith, all_there, mul-le-mul_left p.field u.some, mul_comm p.field n, u.given.legal.item, u.given.legal.parts)

  -- the fields that begin before the last word
  module _ (before : ℕ) (b : before ≡ (32 * (length ws - 1) + (p.field - 1)) / p.field) where
    field_bits : 0 < p.field
    field_bits = omega (arith, u.given.legal.item, u.given.legal.parts)

    -- their bits, and less than a field more
    before_bits : before * p.field + (32 * (length ws - 1) + (p.field - 1)) % p.field ≡ 32 * (length ws - 1) + (p.field - 1)
    before_bits = rw b (div-add-mod' (32 * (length ws - 1) + (p.field - 1)) p.field)

    over : (32 * (length ws - 1) + (p.field - 1)) % p.field < p.field
    over = mod-lt _ field_bits

    before_end : (k : ℕ) → k < before → k * p.field < 32 * (length ws - 1)
    before_end k q =
        let m : (k + 1) * p.field ≤ before * p.field = mul-le-mul_right p.field (omega arith) in
        omega (arith, m, field_bits, before_bits, add-mul k 1 p.field)

    pub word_behind : (k : ℕ) → k < before → k * p.field + 32 < length ws * 32
    word_behind k q = omega (arith, before_end k q)

    pub last_reached : length ws * 32 ≤ before * p.field + 32
    last_reached = omega (arith, words_some, field_bits, before_bits, over)

    pub before_most : before ≤ n
    before_most =
        ⊎_elim
        (λ (l : before ≤ n). l)
        (λ (l : n < before). absurd (omega (arith, before_end n l, all_there, none_past)))
        (le_or_lt before n)

  module _ (k v : ℕ) (e : v ≡ span 32 (stream_bits 32 ws) (k * p.field) 32) where
    pub field_here : v / 2 ^ (32 - p.field) ≡ field_in p ws k
    field_here = front_field p ws 32 k v u.whole e u.narrow

    pub item_here : v / 2 ^ (32 - p.item) ≡ item_in p (field_in p ws k)
    item_here = front_item p ws 32 k v u.whole e (omega (arith, u.given.legal.parts)) u.narrow

  -- a field that begins in the last word
  module _ (small : (j : ℕ) → get_or ws j 0 < 2 ^ 32) (a k v : ℕ) (last : length ws * 32 ≤ a * p.field + 32) (from : a ≤ k) (turn : k < n) where
    module _ (e : v ≡ get_or ws (length ws - 1) 0 * 2 ^ (k * p.field % 32) % 2 ^ 32) where
      in_last : v ≡ span 32 (stream_bits 32 ws) (k * p.field) 32
      in_last =
          e ∙ bits_last_are ws small (k * p.field)
          (omega (arith, all_there, mul-le-mul_right p.field turn, u.given.legal.item, u.given.legal.parts))
          (omega (arith, mul-le-mul_right p.field from))

      pub field_last : v / 2 ^ (32 - p.field) ≡ field_in p ws k
      field_last = field_here k v in_last

      pub item_last : v / 2 ^ (32 - p.item) ≡ item_in p (field_in p ws k)
      item_last = item_here k v in_last

-- ---- fields of more than 32 bits
module _ {p : Packing} {n room : ℕ} {ws : List ℕ} (u : Unpackable p n ws room) (wide : 32 < p.field) where
  pub item_wide : (k v : ℕ) → v ≡ span 32 (stream_bits 32 ws) (k * p.field) 64 → v / 2 ^ (64 - p.item) ≡ item_in p (field_in p ws k)
  item_wide k v e = front_item p ws 64 k v (u.legal.wide wide) e (omega (arith, u.legal.parts)) u.legal.few

  wide_there : (k : ℕ) → k ≤ n → k * p.field ≤ length ws * 32
  wide_there k q =
      let t = rw (u.legal.wide wide) at u.there in
      omega (arith, mul-le-mul_left p.field q, mul_comm p.field k)

  pub wide_small : (k : ℕ) → k ≤ n - 1 → k * p.field < 2 ^ 64
  wide_small k q = omega (arith, place_small p.field n k u.legal.few u.few (omega arith))

  -- three words hold a field that is not the last, and two or three the last
  pub words_behind : (k : ℕ) → k < n - 1 → k * p.field + 64 < length ws * 32
  words_behind k q = omega (arith, wide_there (k + 2) (omega arith), add-mul k 2 p.field)

  pub word_beside : 0 < n → (n - 1) * p.field + 32 < length ws * 32
  word_beside q =
      let e : n - 1 + 1 ≡ n = omega arith in
      omega (arith, wide_there (n - 1 + 1) (omega arith), add-mul (n - 1) 1 p.field)

  -- the items of the fields before the last, and then the last
  pub items_wide : {v : ℕ} {l l' : List ℕ} → 0 < n → n ≤ length l → FilledOn 0 (n - 1) (λ j. item_in p (field_in p ws j)) l l'
      → v ≡ span 32 (stream_bits 32 ws) ((n - 1) * p.field) 64 → set l' (n - 1) (v / 2 ^ (64 - p.item)) ≡ filled n (λ j. item_in p (field_in p ws j)) l
  items_wide {v} {l} {l'} some room f e =
      let z : n - 1 + 1 ≡ n = omega arith in
      filled_more (n - 1) _ l l' _ (omega arith) (filled_whole (n - 1) _ l l' (omega arith) f) (item_wide (n - 1) v e)
      ∙ ap (λ (x : ℕ). filled x (λ j. item_in p (field_in p ws j)) l) z
