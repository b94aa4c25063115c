-- The walks over the fields of a body. The idea: at a loop's head the rules of all fields are those of the bits that are left, from the place reached on, since
-- those passed obey. A walk between two bits goes from bit to bit (`Striding`); one over the low bits takes the first that is left (`Walking`), and bits that
-- have no rule decide nothing (`unruled_obeyed`).
use Rattle.words.proofs.Kit.{◌≡◌, refl, sym, ap, ◌∙◌, Bool, true, false, ⊎_elim, List, [], ◌∷◌, ℕ, zero, suc, ◌+◌, ◌-◌, ◌^◌, ◌≤◌, ◌<◌, arith}
use Rattle.words.proofs.Kit.{◌/◌, ◌%◌, eq-eqb, ne_eqb, length, drop}
use native.Mathlib.Numerals.{add-one}
use lib.Bits.{bit_and, and_le_l}
use lib.Pow.{pow_pos}
use lib.Seq.{drop-drop}
use Rattle.words.specs.Tests.{pick, both}
use Rattle.words.specs.Word.{has}
use Rattle.words.specs.SetBits.{bits_of, above}
use Rattle.words.proofs.Cases.{true_or_false, le_or_lt}
use Rattle.words.proofs.BitLaws.{has_and}
use Rattle.words.proofs.SetBitLaws.{bits_trim, bits_zero, bits_yes, bits_no, bits_head, has_above, above_none, above_kept}
use Rattle.fields.specs.Sizes.{field_size, sizes_of, words_of}
use Rattle.fields.specs.Rules.{rule_of}
use Rattle.fields.specs.Layout.{span_of, obeyed, carried, indicator_of, body_words}
use Rattle.fields.specs.inner.Limits.{ruled}
use Rattle.fields.proofs.SizeLaws.{words_fixed, sizes_none, sizes_more, sizes_between}
use Rattle.fields.proofs.RuleLaws.{ruled_bits, ruled_bit, unruled_kept}

-- the bits that are left, whose fields are the first of us, of those whose fields were the first of ws
pub record Walking (bits : ℕ) (ws : List ℕ) (rest : ℕ) (us : List ℕ) : Type 0 where
  pub fits : rest < 2 ^ 18
  pub rules : obeyed (bits_of 32 rest) us ≡ obeyed (bits_of 18 bits) ws

-- ---- one field more

pub span_cons : (b w at : ℕ) (bs body : List ℕ) → w ≡ words_of b (drop at body) → span_of (b ∷ bs) (drop at body) ≡ w + span_of bs (drop (at + w) body)
unfolding span_of
span_cons b w at bs body e = rw (← e, drop-drop)

pub rules_cons : (b w at : ℕ) (bs body : List ℕ) → w ≡ words_of b (drop at body)
    → obeyed (b ∷ bs) (drop at body) ≡ both (rule_of b (drop at body)) (obeyed bs (drop (at + w) body))
unfolding obeyed
rules_cons b w at bs body e = rw (← e, drop-drop)

-- ---- bits that have no rule

-- no bit is left that has a rule, where the mask leaves nothing
pub unruled_left : (rest : ℕ) → bit_and rest ruled_bits ≡ 0 → (b : ℕ) → b < 32 → has rest b ≡ true → ruled b ≡ false
unruled_left rest z b h y =
    let e : both (has rest b) (has ruled_bits b) ≡ false = sym (has_and rest ruled_bits b) ∙ ap (λ (n : ℕ). has n b) z ∙ has_above 0 b (pow_pos b) in
    sym (ruled_bit b h) ∙ rw y at e

unruled_obeyed : (k n : ℕ) (ws : List ℕ) → k ≤ 32 → ((b : ℕ) → b < 32 → has n b ≡ true → ruled b ≡ false) → obeyed (bits_of k n) ws ≡ true
unfolding obeyed
unruled_obeyed zero n ws h none = rw (bits_zero n)
unruled_obeyed (suc k) n ws h none =
    ⊎_elim
    (λ (y : has n k ≡ true).
    rw (bits_yes k n y, ← (unruled_kept k ws (ruled k) refl (none k (omega arith) y)))
    (unruled_obeyed k n (drop (words_of k ws) ws) (omega arith) none))
    (λ (y : has n k ≡ false). rw (bits_no k n y) (unruled_obeyed k n ws (omega arith) none))
    (true_or_false (has n k))

-- ---- the walk from bit `first` down to the one above `past`: its head, where the bits below `top` are left, its start, a turn, a broken rule, its end

pub record Striding (bits first past at : ℕ) (body : List ℕ) (top place : ℕ) : Type 0 where
  pub low : past < top
  pub high : top ≤ suc first
  pub span : place + sizes_of (above past (bits_of top bits)) ≡ at + sizes_of (above past (bits_of (suc first) bits))
  pub rules : obeyed (above past (bits_of top bits)) (drop place body) ≡ obeyed (above past (bits_of (suc first) bits)) (drop at body)

pub striding_start : (bits first past at : ℕ) (body : List ℕ) → past ≤ first → Striding bits first past at body (first + 1) at
striding_start bits first past at body h = record { low = omega arith; high = omega arith; span = rw add-one; rules = rw add-one }

module _ {bits first past at top place : ℕ} {body : List ℕ} (p : Striding bits first past at body top place) (least : 17 ≤ past) (most : first ≤ 30) where
  -- a place that the walk reaches is near
  pub striding_near : place ≤ at + 74
  striding_near = omega (arith, p.span, sizes_between bits first past (omega (arith, p.low, p.high)) most)

  pub striding_small : at < 2 ^ 20 → place < 2 ^ 40
  striding_small h = omega (arith, striding_near)

  pub striding_fits : at < 2 ^ 20 → (n : ℕ) → n ≤ 13 → place + n < 2 ^ 64
  striding_fits h n l = omega (arith, striding_near)

  module _ (h : past + 1 < top) where
    bit : ℕ
    bit = top - 1

    left : above past (bits_of top bits) ≡ pick (has bits bit) (bit ∷ above past (bits_of bit bits)) (above past (bits_of bit bits))
    unfolding bits_of bit
    left =
        let down : top ≡ suc (top - 1) = omega arith in
        ap (λ (n : ℕ). above past (bits_of n bits)) down ∙ above_kept (has bits (top - 1)) past (top - 1) (bits_of (top - 1) bits) (omega arith)

    -- the field of the next bit is not carried
    pub striding_over : (bits / 2 ^ (top - 1) % 2 ≡ 1 → ⊥) → Striding bits first past at body (top - 1) place
    unfolding bit
    striding_over none =
        let e = rw (ne_eqb (bits / 2 ^ (top - 1) % 2) 1 none) at left in
        record { low = omega arith; high = omega (arith, p.high); span = rw e at p.span; rules = rw e at p.rules }

    -- it is carried, and k is whether it obeys
    module _ (some : bits / 2 ^ (top - 1) % 2 ≡ 1) (k : Bool) (rule : k ≡ rule_of (top - 1) (drop place body)) where
      carries : above past (bits_of top bits) ≡ (top - 1) ∷ above past (bits_of (top - 1) bits)
      unfolding bit
      carries = rw (eq-eqb (bits / 2 ^ (top - 1) % 2) 1 some) at left

      striding_next : (n : ℕ) → n ≡ field_size (top - 1)
          → obeyed (above past (bits_of (suc first) bits)) (drop at body) ≡ both k (obeyed (above past (bits_of (top - 1) bits)) (drop (place + n) body))
      striding_next n e =
          sym p.rules ∙ ap (λ (l : List ℕ). obeyed l (drop place body)) carries
          ∙ rules_cons (top - 1) n place (above past (bits_of (top - 1) bits)) body (e ∙ sym (words_fixed (top - 1) (drop place body) (omega arith)))
          ∙ rw rule

      pub striding_broken : k ≡ false → obeyed (above past (bits_of (suc first) bits)) (drop at body) ≡ false
      striding_broken o = rw o at (striding_next (field_size (top - 1)) refl)

      pub striding_turn : (n : ℕ) → n ≡ field_size (top - 1) → k ≡ true → Striding bits first past at body (top - 1) (place + n)
      striding_turn n e o = record {
        low = omega arith;
        high = omega (arith, p.high);
        span = omega (arith, p.span, ap sizes_of carries, sizes_more (top - 1) (above past (bits_of (top - 1) bits)));
        rules = sym (rw o at (striding_next n e));
      }

  module _ (h : top ≤ past + 1) where
    none_between : above past (bits_of top bits) ≡ []
    none_between = above_none past top bits (omega arith)

    pub striding_end : obeyed (above past (bits_of (suc first) bits)) (drop at body) ≡ true
    unfolding obeyed
    striding_end = sym (rw none_between at p.rules)

    pub striding_past : place ≡ at + sizes_of (above past (bits_of (suc first) bits))
    striding_past = omega (arith, p.span, ap sizes_of none_between, sizes_none)

-- ---- the walk over the low bits: its start, a turn, a rule that is broken, its end

pub walking_start : (bits : ℕ) (ws : List ℕ) → bits < 2 ^ 18 → Walking bits ws bits ws
walking_start bits ws h = record { fits = h; rules = rw (bits_trim 18 32 bits (omega arith) h) }

-- a bit is left where one is left that has a rule
pub walking_some : (rest : ℕ) → (bit_and rest ruled_bits ≡ 0 → ⊥) → 0 < rest
walking_some rest h = ⊎_elim (λ (z : rest ≤ 0). absurd (h (omega (arith, and_le_l rest ruled_bits)))) (λ (z : 0 < rest). z) (le_or_lt rest 0)

module _ {bits rest : ℕ} {ws us : List ℕ} (p : Walking bits ws rest us) where
  -- b is the next bit, and k whether its field obeys
  module _ (b rest' : ℕ) (k : Bool) (cut : bits_of 32 rest ≡ b ∷ bits_of 32 rest') (rule : k ≡ rule_of b us) where
    pub walking_bit : b < 31
    walking_bit = omega (arith, (bits_head 18 rest b (bits_of 32 rest') (sym (bits_trim 18 32 rest (omega arith) p.fits) ∙ cut)).low)

    walking_next : (w : ℕ) → w ≡ words_of b us → obeyed (bits_of 18 bits) ws ≡ both k (obeyed (bits_of 32 rest') (drop w us))
    unfolding obeyed
    walking_next w e = sym p.rules ∙ ap (λ (l : List ℕ). obeyed l us) cut ∙ rw (rule, e)

    pub walking_broken : k ≡ false → false ≡ obeyed (bits_of 18 bits) ws
    walking_broken n = sym (rw n at (walking_next (words_of b us) refl))

    pub walking_turn : (w : ℕ) (vs : List ℕ) → k ≡ true → rest' < rest → w ≡ words_of b us → vs ≡ drop w us → Walking bits ws rest' vs
    walking_turn w vs n less e f = record {
      fits = omega (arith, p.fits);
      rules = rw f (sym (rw n at (walking_next w e)));
    }

  pub walking_end : bit_and rest ruled_bits ≡ 0 → true ≡ obeyed (bits_of 18 bits) ws
  walking_end z = sym (unruled_obeyed 32 rest us (omega arith) (unruled_left rest z)) ∙ p.rules

pub none_left : (l : List ℕ) → length l ≤ 0 → l ≡ []
none_left [] h = refl
none_left (b ∷ l) h = absurd (omega arith)

-- ---- the walk over all fields of a body, whose indicator is w

pub walked_words : (w end : ℕ) (body : List ℕ) → w ≡ indicator_of body → end ≡ 1 + span_of (bits_of 31 w) (drop 1 body) → body_words body ≡ end
unfolding body_words
walked_words w end body e h = rw (h, e)

pub walked_rules : (w : ℕ) (kept : Bool) (body : List ℕ) → w ≡ indicator_of body → kept ≡ obeyed (bits_of 31 w) (drop 1 body)
    → obeyed (carried (indicator_of body)) (drop 1 body) ≡ kept
walked_rules w kept body e h = rw (h, e)
