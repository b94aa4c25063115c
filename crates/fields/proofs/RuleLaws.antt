-- The field rules. The idea: every rule looks at the first word alone, but for device (17), which looks at two; so a rule of a field from bit 10 up,
-- which has a word (device has two), is the rule of its own words. A rule is a limit of the first word and what else is asked (`rule_limit`); and the
-- fields that have one are the bits of one constant (`ruled_bit`).
use Rattle.words.proofs.Kit.{◌≡◌, refl, sym, ◌∙◌, Bool, true, false, not, ⊎_elim, List, [], ◌∷◌, ℕ, ◌/◌, ◌%◌, ◌^◌, ◌≤◌, ◌<◌, arith, eqb-true}
use Rattle.words.proofs.Kit.{◌*◌, not-true, eq-eqb, ne_eqb, lt-ltb, le-ltb, eqb, ltb, take, get_or}
use native.Mathlib.Nat.{mod-eq_of_lt, div-eq_of_lt, div-lt_iff_lt-mul}
use lib.Pow.{pow_pos}
use lib.Seq.{get_or-take}
use Rattle.words.specs.Tests.{pick, either, both, among}
use Rattle.words.specs.Word.{has}
use Rattle.words.specs.All.{all}
use Rattle.words.proofs.Cases.{true_or_false, le_or_lt, true_is_false, both_yes, neither, agreed}
use Rattle.words.proofs.AllLaws.{all_at}
use Rattle.fields.specs.Sizes.{field_size}
use Rattle.fields.specs.Rules.{rule_of, not_negative_fields, upper_half_fields, not_negative, upper_half_zero}
use Rattle.fields.specs.Rules.{device_rule, state_rule, format_rule, ascii_rule, lists_rule}
use Rattle.fields.specs.inner.Limits.{ruled_fields, ruled, limit_of, first_ok, device_second, more_ok}
use Rattle.fields.proofs.SizeLaws.{size_some}

-- a rule other than device's is the same for the same first word
pub rule_first : (b : ℕ) (us ws : List ℕ) → eqb b 17 ≡ false → get_or us 0 0 ≡ get_or ws 0 0 → rule_of b us ≡ rule_of b ws
unfolding rule_of not_negative upper_half_zero state_rule format_rule ascii_rule lists_rule
rule_first b us ws n e = rw (n, e)

-- device (17) has the two words that its rule looks at
rule_device : (ws : List ℕ) → rule_of 17 (take (field_size 17) ws) ≡ rule_of 17 ws
unfolding rule_of device_rule field_size
rule_device ws = rw (get_or-take 2 ws 0 0 (omega arith), get_or-take 2 ws 1 0 (omega arith))

-- a rule looks only at the field's own words
pub rule_own : (b : ℕ) (ws : List ℕ) → 10 ≤ b → b < 31 → rule_of b (take (field_size b) ws) ≡ rule_of b ws
rule_own b ws h g =
    ⊎_elim (λ t. let e : b ≡ 17 = eqb-true b 17 t in rw e (rule_device ws))
    (λ f. rule_first b (take (field_size b) ws) ws f (get_or-take (field_size b) ws 0 0 (size_some b h g))) (true_or_false (eqb b 17))

-- ---- a rule is a limit of the first word, and what else is asked

-- the bits of a word from bit k up are zero where it is below 2^k
top_free : (k m u : ℕ) → u < 2 ^ m * 2 ^ k → eqb (u / 2 ^ k % 2 ^ m) 0 ≡ ltb u (2 ^ k)
top_free k m u h =
    let some : 0 < 2 ^ k = pow_pos k in
    let below : u / 2 ^ k ≡ 0 → u < 1 * 2 ^ k = λ e. (div-lt_iff_lt-mul some).0 (omega arith) in
    rw (mod-eq_of_lt ((div-lt_iff_lt-mul some).1 h))
    (⊎_elim (λ (g : 2 ^ k ≤ u). rw (ne_eqb (u / 2 ^ k) 0 (λ e. let l = below e in omega arith), le-ltb u (2 ^ k) g))
    (λ (g : u < 2 ^ k). rw (eq-eqb (u / 2 ^ k) 0 (div-eq_of_lt g), lt-ltb u (2 ^ k) g)) (le_or_lt (2 ^ k) u))

-- no limit is below 2^16
pub first_small : (b u : ℕ) → u < 2 ^ 16 → first_ok b u ≡ true
unfolding first_ok limit_of
first_small b u h =
    let one : (t : Bool) (m n : ℕ) → (t ≡ true → ltb u m ≡ true) → (t ≡ false → ltb u n ≡ true) → ltb u (pick t m n) ≡ true =
    λ t m n y z. ⊎_elim (λ (p : t ≡ true). rw p (y p)) (λ (p : t ≡ false). rw p (z p)) (true_or_false t) in
    one (among b not_negative_fields) (2 ^ 31) _ (λ p. lt-ltb u (2 ^ 31) (omega arith))
    (λ p. one (among b upper_half_fields) (2 ^ 16) _ (λ q. lt-ltb u (2 ^ 16) h)
    (λ q. one (among b (17 ∷ 9 ∷ [])) (2 ^ 24) (2 ^ 32) (λ r. lt-ltb u (2 ^ 24) (omega arith)) (λ r. lt-ltb u (2 ^ 32) (omega arith))))

abbrev Limited : ℕ → List ℕ → Type 0
Limited b ws = rule_of b ws ≡ both (first_ok b (get_or ws 0 0)) (more_ok b (get_or ws 0 0) (get_or ws 1 0))

or_row : (b n : ℕ) (ws : List ℕ) → Limited n ws → (eqb b n ≡ false → Limited b ws) → Limited b ws
or_row b n ws s f = ⊎_elim (λ t. let e : b ≡ n = eqb-true b n t in rw e s) f (true_or_false (eqb b n))

pub rule_limit : (b : ℕ) (ws : List ℕ) → get_or ws 0 0 < 2 ^ 32 → rule_of b ws ≡ both (first_ok b (get_or ws 0 0)) (more_ok b (get_or ws 0 0) (get_or ws 1 0))
unfolding rule_of first_ok limit_of more_ok device_second not_negative upper_half_zero device_rule state_rule format_rule ascii_rule lists_rule
rule_limit b ws h =
    let u : ℕ = get_or ws 0 0 in
    or_row b 29 ws (top_free 31 1 u h ∙ sym (both_yes (ltb u (2 ^ 31)))) (λ p.
    or_row b 21 ws (top_free 31 1 u h ∙ sym (both_yes (ltb u (2 ^ 31)))) (λ q.
    or_row b 24 ws (top_free 16 16 u h ∙ sym (both_yes (ltb u (2 ^ 16)))) (λ r.
    or_row b 18 ws (top_free 16 16 u h ∙ sym (both_yes (ltb u (2 ^ 16)))) (λ s.
    or_row b 17 ws (rw (top_free 24 8 u h)) (λ t.
    or_row b 9 ws (top_free 24 8 u h ∙ sym (both_yes (ltb u (2 ^ 24)))) (λ v.
    rw (p, q, r, s, t, v, lt-ltb u (2 ^ 32) h)))))))

-- nothing else is asked of a field above bit 17
more_above : (b u v : ℕ) → 17 < b → more_ok b u v ≡ true
unfolding more_ok
more_above b u v h =
    rw (ne_eqb b 17 (λ e. omega arith), ne_eqb b 16 (λ e. omega arith), ne_eqb b 15 (λ e. omega arith), ne_eqb b 8 (λ e. omega arith))

-- the rule of a field whose words are the first of ws, by the answer `below` to whether the first is below its limit
module _ (b : ℕ) (ws : List ℕ) (below : Bool) (f : below ≡ first_ok b (get_or ws 0 0)) (h : get_or ws 0 0 < 2 ^ 32) where
  pub rule_broken_lem : below ≡ false → false ≡ rule_of b ws
  rule_broken_lem over = sym (rule_limit b ws h ∙ rw (← f, over))

  pub rule_only : 17 < b → below ≡ rule_of b ws
  rule_only g = sym (rule_limit b ws h ∙ rw (← f, more_above b (get_or ws 0 0) (get_or ws 1 0) g) (both_yes below))

  pub rule_more : below ≡ true → (v : ℕ) (more : Bool) → v ≡ get_or ws 1 0 → more ≡ more_ok b (get_or ws 0 0) v → more ≡ rule_of b ws
  rule_more under v more e m = m ∙ rw e (sym (rule_limit b ws h ∙ rw (← f, under)))

-- the same, by the first word u
module _ (b u : ℕ) (ws : List ℕ) (e : u ≡ get_or ws 0 0) (below : Bool) (f : below ≡ first_ok b u) (h : u < 2 ^ 32) where
  pub word_over : below ≡ false → below ≡ rule_of b ws
  word_over over = over ∙ rule_broken_lem b ws below (f ∙ rw e) (rw (← e) h) over

  pub word_only : 17 < b → below ≡ rule_of b ws
  word_only = rule_only b ws below (f ∙ rw e) (rw (← e) h)

  pub word_more : below ≡ true → (v : ℕ) (more : Bool) → v ≡ get_or ws 1 0 → more ≡ more_ok b u v → more ≡ rule_of b ws
  word_more under v more g m = rule_more b ws below (f ∙ rw e) (rw (← e) h) under v more g (rw e at m)

-- ---- the fields that have a rule, as the bits of one constant
abbrev pub ruled_bits : ℕ
ruled_bits = 0x21278300

bit_right : ℕ → Bool
bit_right b = pick (has ruled_bits b) (ruled b) (not (ruled b))

pub ruled_bit : (b : ℕ) → b < 32 → has ruled_bits b ≡ ruled b
unfolding bit_right all ruled
ruled_bit b h = agreed (has ruled_bits b) (ruled b) (all_at bit_right 32 b h refl)

-- fields 14 to 10 have none
free : ℕ → Bool
free b = either (ltb b 10) (not (ruled b))

pub unruled_low : (b : ℕ) → 10 ≤ b → b ≤ 14 → ruled b ≡ false
unfolding free all ruled
unruled_low b h g = not-true (ruled b) (rw (le-ltb b 10 h) at (all_at free 15 b (omega arith) refl))

-- what is not among some numbers is none of them
none_of : (b n : ℕ) (xs : List ℕ) → among b xs ≡ false → among n xs ≡ true → eqb b n ≡ false
none_of b n [] e m = absurd (true_is_false (sym m))
none_of b n (x ∷ xs) e m =
    let apart = neither (eqb b x) (among b xs) e in
    ⊎_elim (λ t. let k : n ≡ x = eqb-true n x t in rw k apart.0) (λ f. none_of b n xs apart.1 (rw f at m)) (true_or_false (eqb n x))

-- a field that has none obeys, by the answer t to whether it has one
module _ (b : ℕ) (ws : List ℕ) (t : Bool) (e : t ≡ ruled b) (none : t ≡ false) where
  other : (n : ℕ) → ruled n ≡ true → eqb b n ≡ false
  unfolding ruled
  other n m = none_of b n ruled_fields (sym e ∙ none) m

  pub unruled_kept : true ≡ rule_of b ws
  unfolding ruled rule_of
  unruled_kept =
      rw (other 29 refl, other 21 refl, other 24 refl, other 18 refl, other 17 refl, other 16 refl, other 15 refl, other 9 refl, other 8 refl)
