-- A packing field and its parts. The idea: the tags together stay below the item's place, so the parts of a field that is made of them come out again,
-- and a field whose unused bits are 0 is made of its parts.
use Rattle.words.proofs.Kit.{◌≡◌, sym, ap, ap₂, ◌∙◌, subst, List, ℕ, ◌+◌, ◌-◌, ◌*◌, ◌/◌, ◌%◌, ◌^◌, ◌≤◌, ◌<◌, arith, get_or, length}
use native.Mathlib.Nat.{add_assoc, mul_assoc, add-mul, lt_of_lt_of_le, mul-le-mul, mul-mod_left, mod-le}
use lib.ListN.{get_or-eq_default}
use lib.Arith.{digits_lt}
use lib.Pow.{high, low, pow-add, pow_mono, mod-pow-add, shl_exact, shl_lt}
use lib.Pow as Pow
use Rattle.payload_format.specs.declared.inner.Packing.{Packing}
use Rattle.payload_format.specs.inner.Legal.{Legal}
use Rattle.payload_format.specs.Field.{item_in, event_in, channel_in, unused_in, made, fields_of}

-- ---- a field that holds an item alone
module _ (p : Packing) (l : Legal p) (i : ℕ) (h : i < 2 ^ p.item) where
  pub item_alone : (i * 2 ^ (p.field - p.item)) % 2 ^ 64 ≡ i * 2 ^ (p.field - p.item)
  item_alone = shl_exact p.item (p.field - p.item) 64 h (omega arith)

  pub item_below : i * 2 ^ (p.field - p.item) < 2 ^ p.field
  item_below =
      let q : p.item + (p.field - p.item) ≡ p.field = omega arith in
      subst (λ (x : ℕ). i * 2 ^ (p.field - p.item) < 2 ^ x) q (shl_lt p.item (p.field - p.item) h)

pub items_blank : (items : List ℕ) (j m : ℕ) → length items ≤ j → get_or items j 0 * m ≡ 0
items_blank items j m h = rw (get_or-eq_default items 0 h) (omega arith)

-- two tags beside each other stay far below 2 ^ 64
pub tags_fit : (a b k : ℕ) → a < 2 ^ 16 → b < 2 ^ 16 → k ≤ 15 → (a * 2 ^ k) % 2 ^ 64 + b < 2 ^ 64
tags_fit a b k h g l =
    let m : 2 ^ k ≤ 2 ^ 15 = pow_mono l in
    let n : a ≤ 2 ^ 16 = omega arith in
    let q : a * 2 ^ k ≤ 2 ^ 16 * 2 ^ 15 = mul-le-mul n m in
    omega (arith, mod-le (a * 2 ^ k) (2 ^ 64))

-- ---- the parts of a field that is made of them
module _ (p : Packing) (l : Legal p) (i e c : ℕ) (he : e < 2 ^ p.event) (hc : c < 2 ^ p.channel) where
  pub tags_below : e * 2 ^ p.channel + c < 2 ^ (p.field - p.item)
  tags_below =
      lt_of_lt_of_le (digits_lt he hc)
      (rw (← pow-add 2 p.event p.channel) (pow_mono (omega arith)))

  pub item_back : item_in p (made p i e c) ≡ i
  item_back = high i (p.field - p.item) tags_below

  -- by its digits from the right
  shape : made p i e c ≡ (i * 2 ^ (p.field - p.item - p.channel - p.event) * 2 ^ p.event + e) * 2 ^ p.channel + c
  shape =
      let r : ℕ = p.field - p.item - p.channel - p.event in
      let q : p.field - p.item ≡ r + p.event + p.channel = omega arith in
      ap (λ (x : ℕ). i * 2 ^ x + (e * 2 ^ p.channel + c)) q
      ∙ ap (λ (x : ℕ). i * x + (e * 2 ^ p.channel + c)) (pow-add 2 (r + p.event) p.channel ∙ ap (λ (x : ℕ). x * 2 ^ p.channel) (pow-add 2 r p.event))
      ∙ ap (λ (x : ℕ). x + (e * 2 ^ p.channel + c))
      (sym (mul_assoc i (2 ^ r * 2 ^ p.event) (2 ^ p.channel)) ∙ ap (λ (x : ℕ). x * 2 ^ p.channel) (sym (mul_assoc i (2 ^ r) (2 ^ p.event))))
      ∙ sym (add_assoc (i * 2 ^ r * 2 ^ p.event * 2 ^ p.channel) (e * 2 ^ p.channel) c)
      ∙ ap (λ (x : ℕ). x + c) (sym (add-mul (i * 2 ^ r * 2 ^ p.event) e (2 ^ p.channel)))

  pub channel_back : channel_in p (made p i e c) ≡ c
  channel_back = ap (λ (x : ℕ). x % 2 ^ p.channel) shape ∙ low _ p.channel hc

  pub event_back : event_in p (made p i e c) ≡ e
  event_back = ap (λ (x : ℕ). x / 2 ^ p.channel % 2 ^ p.event) shape ∙ ap (λ (x : ℕ). x % 2 ^ p.event) (high _ p.channel hc) ∙ low _ p.event he

  -- its unused bits are 0
  pub unused_made : unused_in p (made p i e c) ≡ 0
  unused_made =
      let t : ℕ = p.event + p.channel in
      let r : ℕ = p.field - p.item - t in
      let q : p.field - p.item ≡ r + t = omega arith in
      let b : e * 2 ^ p.channel + c < 2 ^ t = rw (pow-add 2 p.event p.channel) (digits_lt he hc) in
      let d : made p i e c ≡ i * 2 ^ r * 2 ^ t + (e * 2 ^ p.channel + c) =
      ap (λ (x : ℕ). x + (e * 2 ^ p.channel + c)) (ap (λ (x : ℕ). i * 2 ^ x) q ∙ ap (λ (x : ℕ). i * x) (pow-add 2 r t) ∙ sym (mul_assoc i (2 ^ r) (2 ^ t))) in
      ap (λ (x : ℕ). x / 2 ^ t % 2 ^ r) d ∙ ap (λ (x : ℕ). x % 2 ^ r) (high (i * 2 ^ r) t b) ∙ mul-mod_left i (2 ^ r)

  -- and the field fits
  pub made_below : i < 2 ^ p.item → made p i e c < 2 ^ p.field
  made_below hi =
      let q : p.item + (p.field - p.item) ≡ p.field = omega arith in
      subst (λ (x : ℕ). made p i e c < 2 ^ x) q (rw (pow-add 2 p.item (p.field - p.item)) (digits_lt hi tags_below))

  -- as shifts within 64 bits make it
  module _ (hi : i < 2 ^ p.item) where
    event_exact : (e * 2 ^ p.channel) % 2 ^ 64 ≡ e * 2 ^ p.channel
    event_exact = shl_exact p.event p.channel 64 he (omega arith)

    pub made_exact : (i * 2 ^ (p.field - p.item)) % 2 ^ 64 + ((e * 2 ^ p.channel) % 2 ^ 64 + c) ≡ made p i e c
    made_exact = ap₂ (λ (x y : ℕ). x + (y + c)) (item_alone p l i hi) event_exact

    pub made_fits : (i * 2 ^ (p.field - p.item)) % 2 ^ 64 + ((e * 2 ^ p.channel) % 2 ^ 64 + c) < 2 ^ 64
    made_fits = rw made_exact (lt_of_lt_of_le (made_below hi) (pow_mono {i = p.field} {j = 64} l.few))

-- ---- a field whose unused bits are 0 is made of its parts
pub made_back : (p : Packing) → Legal p → (v : ℕ) → unused_in p v ≡ 0 → made p (item_in p v) (event_in p v) (channel_in p v) ≡ v
made_back p l v u =
    let t : ℕ = p.event + p.channel in
    let r : ℕ = p.field - p.item - t in
    let q : p.field - p.item ≡ r + t = omega arith in
    let tags : v % 2 ^ t ≡ event_in p v * 2 ^ p.channel + channel_in p v = mod-pow-add v p.event p.channel in
    let rest : v % 2 ^ (p.field - p.item) ≡ v % 2 ^ t =
    ap (λ (x : ℕ). v % 2 ^ x) q ∙ mod-pow-add v r t ∙ ap (λ (x : ℕ). x * 2 ^ t + v % 2 ^ t) u ∙ omega arith in
    ap (λ (x : ℕ). item_in p v * 2 ^ (p.field - p.item) + x) (sym tags ∙ sym rest) ∙ Pow.split v (p.field - p.item)

-- no field past the lists' ends
pub fields_blank : (p : Packing) (j : ℕ) (items events channels : List ℕ) → length items ≤ j → length events ≤ j → length channels ≤ j
    → fields_of p items events channels j ≡ 0
fields_blank p j items events channels a b d =
    let i : get_or items j 0 ≡ 0 = get_or-eq_default items 0 a in
    let e : get_or events j 0 ≡ 0 = get_or-eq_default events 0 b in
    let c : get_or channels j 0 ≡ 0 = get_or-eq_default channels 0 d in
    rw (i, e, c) (omega arith)
