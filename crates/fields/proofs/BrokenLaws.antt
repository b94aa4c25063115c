-- The highest broken field of a body. The idea: the bits come highest first, so the first that is broken is the highest (`broken_meant`); a walk that has
-- passed the bits from `top` up without a broken one still has it before it, and stands where the next field begins (`Seeking`).
use Rattle.words.proofs.Kit.{◌≡◌, refl, sym, ap, ◌∙◌, Bool, true, false, not, ⊎_elim, List, [], ◌∷◌, ◌++◌, ℕ, zero, suc, ◌+◌, ◌*◌, ◌%◌, ◌^◌, ◌≤◌, ◌<◌, arith}
use Rattle.words.proofs.Kit.{not-true, not-false, length, drop, get_or}
use mathlib.Core.Logic.{◌⊎◌, inl, inr, ◌↔◌}
use native.Mathlib.Nat.{add-zero, mod-lt}
use lib.Bits.{bit_and}
use lib.Pow.{pow_pos}
use Rattle.words.specs.declared.Where.TheVariants.{Nowhere, Field}
use Rattle.words.specs.Word.{has}
use Rattle.words.specs.SetBits.{bits_of, above}
use Rattle.words.specs.All.{all}
use Rattle.words.proofs.Cases.{true_or_false, true_is_false, le_or_lt}
use Rattle.words.proofs.SetBitLaws.{bits_zero, bits_yes, bits_no, bits_trim, bits_mod, bits_few, bits_none, Head, bits_head, has_above}
use Rattle.words.proofs.SetBitLaws.{above_kept, above_agree, above_parts}
use Rattle.words.proofs.AllLaws.{all_at}
use Rattle.fields.specs.Sizes.{ascii_words, list_words, words_of}
use Rattle.fields.specs.Rules.{rule_of}
use Rattle.fields.specs.Layout.{span_of, obeyed, carried, indicator_of, body_words, place_of, rule_broken}
use Rattle.fields.specs.Broken.{breaks, first_broken, broken_of, Highest}
use Rattle.fields.specs.inner.Limits.{ruled}
use Rattle.fields.proofs.SizeLaws.{size_some, words_fixed}
use Rattle.fields.proofs.RuleLaws.{ruled_bits, unruled_kept}
use Rattle.fields.proofs.WalkLaws.{unruled_left, rules_cons}
use Rattle.fields.proofs.BodyLaws.{span_append, place_drop, from_field, body_split}

-- nowhere is not a field
no_field : {p b : ℕ} → Nowhere ≡ Field p b → ⊥
no_field e = let z : ◌≡◌ {A = ℕ} 0 1 = cc in omega arith

-- a field that has a rule is one of 8 up, and a field of 8 up has a word
low_free : ℕ → Bool
low_free b = not (ruled b)

rule_least : (b : ℕ) → ruled b ≡ true → 8 ≤ b
unfolding low_free all ruled
rule_least b r =
    ⊎_elim (λ (h : 8 ≤ b). h) (λ (h : b < 8). absurd (true_is_false (sym r ∙ not-true (ruled b) (all_at low_free 8 b h refl)))) (le_or_lt 8 b)

words_least : (b : ℕ) (ws : List ℕ) → 8 ≤ b → b < 31 → 1 ≤ words_of b ws
unfolding words_of ascii_words list_words
words_least b ws h g =
    ⊎_elim (λ (l : 10 ≤ b). omega (arith, words_fixed b ws l, size_some b l g))
    (λ (l : b < 10).
    ⊎_elim (λ (m : 9 ≤ b). let e : b ≡ 9 = omega arith in rw e (omega arith)) (λ (m : b < 9). let e : b ≡ 8 = omega arith in rw e (omega arith)) (le_or_lt 9 b))
    (le_or_lt 10 b)

module _ (body : List ℕ) where
  abbrev indicator : ℕ
  indicator = indicator_of body

  -- ---- the first of some bits

  first_here : (b : ℕ) (bs : List ℕ) → breaks b body ≡ true → first_broken (b ∷ bs) body ≡ Field (place_of b body) b
  unfolding first_broken
  first_here b bs e = rw e

  first_later : (b : ℕ) (bs : List ℕ) → breaks b body ≡ false → first_broken (b ∷ bs) body ≡ first_broken bs body
  unfolding first_broken
  first_later b bs e = rw e

  -- it is a field's, or nowhere
  first_kind : (bs : List ℕ) → (first_broken bs body ≡ Nowhere) ⊎ ((p : ℕ) × (b : ℕ) × (first_broken bs body ≡ Field p b))
  unfolding first_broken
  first_kind [] = inl refl
  first_kind (b ∷ bs) =
      ⊎_elim (λ (t : breaks b body ≡ true). inr (place_of b body, b, rw t)) (λ (f : breaks b body ≡ false). rw f (first_kind bs))
      (true_or_false (breaks b body))

  -- ---- the highest below bit k

  record Below (k p b : ℕ) : Type 0 where
    field : b < k
    carries : has indicator b ≡ true
    broken : breaks b body ≡ true
    obey : (x : ℕ) → b < x → x < k → has indicator x ≡ true → breaks x body ≡ false
    place : p ≡ place_of b body

  -- below k + 1, where the field of bit k is not broken
  below_more : (k p b : ℕ) → (has indicator k ≡ true → breaks k body ≡ false) → Below k p b → Below (suc k) p b
  below_more k p b fine h = record {
    field = omega (arith, h.field);
    carries = h.carries;
    broken = h.broken;
    obey = λ x l m. ⊎_elim (λ (g : k ≤ x). let e : x ≡ k = omega arith in rw e fine) (λ (g : x < k). h.obey x l g) (le_or_lt k x);
    place = h.place;
  }

  first_below : (k p b : ℕ) → first_broken (bits_of k indicator) body ≡ Field p b → Below k p b
  unfolding first_broken
  first_below zero p b e = absurd (no_field (rw (bits_zero indicator) at e))
  first_below (suc k) p b e =
      ⊎_elim
      (λ (y : has indicator k ≡ true).
      let f : first_broken (k ∷ bits_of k indicator) body ≡ Field p b = ap (λ (l : List ℕ). first_broken l body) (sym (bits_yes k indicator y)) ∙ e in
      ⊎_elim
      (λ (t : breaks k body ≡ true).
      let g : Field (place_of k body) k ≡ Field p b = sym (first_here k (bits_of k indicator) t) ∙ f in
      let i : b ≡ k = cc in
      let j : p ≡ place_of k body = cc in
      record {
        field = omega arith;
        carries = rw i y;
        broken = rw i t;
        obey = λ x l m. absurd (omega arith);
        place = rw i j;
      })
      (λ (t : breaks k body ≡ false).
      below_more k p b (λ _. t) (first_below k p b (sym (first_later k (bits_of k indicator) t) ∙ f)))
      (true_or_false (breaks k body)))
      (λ (n : has indicator k ≡ false).
      let below = first_below k p b (ap (λ (l : List ℕ). first_broken l body) (sym (bits_no k indicator n)) ∙ e) in
      below_more k p b (λ y. absurd (true_is_false (sym y ∙ n))) below)
      (true_or_false (has indicator k))

  below_first : (k p b : ℕ) → Below k p b → first_broken (bits_of k indicator) body ≡ Field p b
  below_first zero p b h = absurd (omega (arith, h.field))
  below_first (suc k) p b h =
      ⊎_elim
      (λ (g : k ≤ b).
      let e : b ≡ k = omega (arith, h.field) in
      let y : has indicator k ≡ true = rw e at h.carries in
      let t : breaks k body ≡ true = rw e at h.broken in
      rw (bits_yes k indicator y) (first_here k (bits_of k indicator) t ∙ rw (h.place, e)))
      (λ (g : b < k).
      let less : Below k p b = record {
        field = g;
        carries = h.carries;
        broken = h.broken;
        obey = λ x l m. h.obey x l (omega arith);
        place = h.place;
      } in
      ⊎_elim
      (λ (y : has indicator k ≡ true). rw (bits_yes k indicator y) (first_later k (bits_of k indicator) (h.obey k g (omega arith) y) ∙ below_first k p b less))
      (λ (n : has indicator k ≡ false). rw (bits_no k indicator n) (below_first k p b less))
      (true_or_false (has indicator k)))
      (le_or_lt k b)

  -- `broken_of` is the highest broken field
  pub broken_meant : (p b : ℕ) → (broken_of body ≡ Field p b) ↔ Highest body p b
  unfolding broken_of
  broken_meant p b = (
    λ e. let h = first_below 31 p b e in record { field = h.field; carries = h.carries; broken = h.broken; obey = h.obey; place = h.place },
    λ h. below_first 31 p b (record { field = h.field; carries = h.carries; broken = h.broken; obey = h.obey; place = h.place }),
  )

  -- ---- the place of the next field, of a walk that has passed the bits from `top` up

  abbrev Places : ℕ → ℕ → Type 0
  Places top at = (b : ℕ) → b < top → ((x : ℕ) → b < x → x < top → has indicator x ≡ false) → at ≡ place_of b body

  -- no bit stands between b and k
  none_above : (k b : ℕ) → b < k → ((x : ℕ) → b < x → x < k → has indicator x ≡ false) → above b (bits_of k indicator) ≡ []
  unfolding above
  none_above k b h gap = above_agree k b indicator 0 (λ x l m. gap x l m ∙ sym (has_above 0 x (pow_pos x))) ∙ rw (bits_none k 0 (omega arith))

  places_start : Places 31 1
  unfolding place_of span_of
  places_start b h gap = rw (none_above 31 b h gap)

  place_is : (b : ℕ) → place_of b body ≡ 1 + span_of (above b (carried indicator)) (drop 1 body)
  unfolding place_of
  place_is b = refl

  span_one : (b : ℕ) (ws : List ℕ) → span_of (b ∷ []) ws ≡ words_of b ws
  unfolding span_of
  span_one b ws = add-zero (words_of b ws)

  -- past the field of bit b, where no bit stands between it and c below
  place_next : (b c : ℕ) → b < 31 → has indicator b ≡ true → c < b → ((x : ℕ) → c < x → x < b → has indicator x ≡ false)
      → place_of c body ≡ place_of b body + words_of b (from_field b body)
  place_next b c h y l apart =
      let one : above c (bits_of (suc b) indicator) ≡ b ∷ [] =
      ap (above c) (bits_yes b indicator y) ∙ above_kept true c b (bits_of b indicator) l ∙ ap (λ (m : List ℕ). b ∷ m) (none_above b c l apart) in
      let parts : above c (carried indicator) ≡ above b (carried indicator) ++ (b ∷ []) =
      above_parts 31 indicator c b (omega arith) h ∙ ap (λ (m : List ℕ). above b (carried indicator) ++ m) one in
      let spans : span_of (above c (carried indicator)) (drop 1 body)
      ≡ span_of (above b (carried indicator)) (drop 1 body) + span_of (b ∷ []) (from_field b body) =
      ap (λ (m : List ℕ). span_of m (drop 1 body)) parts ∙ span_append (above b (carried indicator)) (b ∷ []) (drop 1 body)
      ∙ ap (λ (ws : List ℕ). span_of (above b (carried indicator)) (drop 1 body) + span_of (b ∷ []) ws) (sym (place_drop b body)) in
      omega (arith, spans, place_is b, place_is c, span_one b (from_field b body))

  module _ (top at : ℕ) (most : top ≤ 31) (places : Places top at) (b : ℕ) (h : b < top)
      (gap : (x : ℕ) → b < x → x < top → has indicator x ≡ false) where
    -- past the field of bit b, the next that is carried
    places_next : has indicator b ≡ true → (w : ℕ) → w ≡ words_of b (drop at body) → Places b (at + w)
    places_next y w e c l apart =
        let here : at ≡ place_of b body = places b h gap in
        let own : w ≡ words_of b (from_field b body) = rw (← here) e in
        sym (place_next b c (omega arith) y l apart ∙ rw (here, own))

  -- ---- where no field is broken, all obey

  breaks_not : (b at : ℕ) → at ≡ place_of b body → breaks b body ≡ not (rule_of b (drop at body))
  unfolding breaks
  breaks_not b at e = rw e

  none_broken : (k at : ℕ) → k ≤ 31 → Places k at → first_broken (bits_of k indicator) body ≡ Nowhere → obeyed (bits_of k indicator) (drop at body) ≡ true
  unfolding obeyed
  none_broken zero at h places e = rw (bits_zero indicator)
  none_broken (suc k) at h places e =
      ⊎_elim
      (λ (y : has indicator k ≡ true).
      let gap : (x : ℕ) → k < x → x < suc k → has indicator x ≡ false = λ x l m. absurd (omega arith) in
      let w : ℕ = words_of k (drop at body) in
      let f : first_broken (k ∷ bits_of k indicator) body ≡ Nowhere = ap (λ (l : List ℕ). first_broken l body) (sym (bits_yes k indicator y)) ∙ e in
      ⊎_elim
      (λ (t : breaks k body ≡ true). absurd (no_field (sym f ∙ first_here k (bits_of k indicator) t)))
      (λ (t : breaks k body ≡ false).
      let fine : rule_of k (drop at body) ≡ true = not-false _ (sym (breaks_not k at (places k (omega arith) gap)) ∙ t) in
      ap (λ (l : List ℕ). obeyed l (drop at body)) (bits_yes k indicator y)
      ∙ rules_cons k w at (bits_of k indicator) body refl
      ∙ rw fine
      (none_broken k (at + w) (omega arith) (places_next (suc k) at h places k (omega arith) gap y w refl) (sym (first_later k (bits_of k indicator) t) ∙ f)))
      (true_or_false (breaks k body)))
      (λ (n : has indicator k ≡ false).
      let skip : Places k at = λ b l apart.
      places b (omega arith) (λ x g m. ⊎_elim (λ (i : k ≤ x). let j : x ≡ k = omega arith in rw j n) (λ (i : x < k). apart x g i) (le_or_lt k x)) in
      rw (bits_no k indicator n)
      (none_broken k at (omega arith) skip (ap (λ (l : List ℕ). first_broken l body) (sym (bits_no k indicator n)) ∙ e)))
      (true_or_false (has indicator k))

  -- so where a rule is broken, some field is the highest
  pub broken_some : rule_broken body ≡ true → (p : ℕ) × (b : ℕ) × (broken_of body ≡ Field p b)
  unfolding rule_broken broken_of
  broken_some e =
      ⊎_elim
      (λ (none : first_broken (carried indicator) body ≡ Nowhere).
      absurd (true_is_false (sym (none_broken 31 1 (omega arith) places_start none) ∙ not-true _ e)))
      (λ some. some) (first_kind (carried indicator))

  -- ---- the walk: its start, a turn, a broken field, its end

  -- the field of a bit that has no rule is not broken, nor is any where no bit has one
  unruled_whole : (b : ℕ) → ruled b ≡ false → breaks b body ≡ false
  unruled_whole b none = breaks_not b (place_of b body) refl ∙ ap not (sym (unruled_kept b (from_field b body) (ruled b) refl none))

  unruled_broken : (k n : ℕ) → k ≤ 32 → ((b : ℕ) → b < 32 → has n b ≡ true → ruled b ≡ false) → first_broken (bits_of k n) body ≡ Nowhere
  unfolding first_broken
  unruled_broken zero n h none = rw (bits_zero n)
  unruled_broken (suc k) n h none =
      ⊎_elim
      (λ (y : has n k ≡ true).
      rw (bits_yes k n y) (first_later k (bits_of k n) (unruled_whole k (none k (omega arith) y)) ∙ unruled_broken k n (omega arith) none))
      (λ (y : has n k ≡ false). rw (bits_no k n y) (unruled_broken k n (omega arith) none))
      (true_or_false (has n k))

  pub record Seeking (rest at : ℕ) : Type 0 where
    pub top : ℕ
    pub most : top ≤ 31
    pub left : bits_of 32 rest ≡ bits_of top indicator
    pub near : at + length (bits_of 32 rest) * 2 ^ 33 ≤ 1 + 32 * 2 ^ 33
    pub places : Places top at
    pub same : first_broken (bits_of top indicator) body ≡ broken_of body

  pub seeking_start : (w : ℕ) → w ≡ get_or body 0 0 → Seeking (w % 2 ^ 31) 1
  unfolding broken_of
  seeking_start w e = record {
    top = 31;
    most = omega arith;
    left = bits_trim 31 32 (w % 2 ^ 31) (omega arith) (mod-lt w (pow_pos 31)) ∙ bits_mod 31 w ∙ ap (bits_of 31) e;
    near = omega (arith, bits_few 32 (w % 2 ^ 31));
    places = places_start;
    same = refl;
  }

  module _ {rest at : ℕ} (p : Seeking rest at) where
    -- b is the next bit, and k whether its field obeys
    module _ (b rest' : ℕ) (cut : bits_of 32 rest ≡ b ∷ bits_of 32 rest') where
      next : Head p.top indicator b (bits_of 32 rest')
      next = bits_head p.top indicator b (bits_of 32 rest') (sym p.left ∙ cut)

      pub seeking_bit : b < 31
      seeking_bit = omega (arith, next.low, p.most)

      module _ (k : Bool) (rule : k ≡ rule_of b (drop at body)) where
        here : at ≡ place_of b body
        here = p.places b next.low next.gap

        asked : breaks b body ≡ not k
        asked = breaks_not b at here ∙ ap not (sym rule)

        ahead : first_broken (b ∷ bits_of 32 rest') body ≡ broken_of body
        ahead = ap (λ (l : List ℕ). first_broken l body) (sym cut ∙ p.left) ∙ p.same

        pub seeking_broken : k ≡ false → Field at b ≡ broken_of body
        seeking_broken n = rw here (sym (first_here b (bits_of 32 rest') (asked ∙ ap not n)) ∙ ahead)

        pub seeking_turn : (w : ℕ) → k ≡ true → w ≡ words_of b (drop at body) → w ≤ 2 ^ 33 → Seeking rest' (at + w)
        seeking_turn w n e small = record {
          top = b;
          most = omega (arith, seeking_bit);
          left = next.rest;
          near = omega (arith, p.near, ap length cut);
          places = places_next p.top at p.most p.places b next.low next.gap next.set w e;
          same = rw (← next.rest) (sym (first_later b (bits_of 32 rest') (asked ∙ ap not n)) ∙ ahead);
        }

    -- a place that the walk reaches is small
    pub seeking_near : at < 2 ^ 40
    seeking_near = omega (arith, p.near)

    pub seeking_end : bit_and rest ruled_bits ≡ 0 → Nowhere ≡ broken_of body
    seeking_end z = sym (unruled_broken 32 rest (omega arith) (unruled_left rest z)) ∙ ap (λ (l : List ℕ). first_broken l body) p.left ∙ p.same

  -- ---- the place lies inside the body, and the bit is one of 30 to 8

  module _ (p b : ℕ) (e : broken_of body ≡ Field p b) where
    highest : Highest body p b
    highest = (broken_meant p b).0 e

    has_rule : ruled b ≡ true
    has_rule =
        ⊎_elim (λ (t : ruled b ≡ true). t)
        (λ (f : ruled b ≡ false).
        absurd (true_is_false (sym highest.broken ∙ unruled_whole b f)))
        (true_or_false (ruled b))

    pub broken_bit : (8 ≤ b) × (b ≤ 30)
    broken_bit = (rule_least b has_rule, omega (arith, highest.field))

    pub broken_inside : body_words body ≡ length body → p < length body
    broken_inside whole =
        omega (arith, body_split b body highest.field highest.carries, highest.place, words_least b (from_field b body) broken_bit.0 highest.field)
