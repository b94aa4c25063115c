-- What callers use of a type 4 body that is accepted. The idea: the carried bits are those above b, b, and those below it (`bits_split`), so the
-- words and the rules of all fields are those of the fields before b's, of b's own, and of the rest (`body_split`, `rules_split`).
use Rattle.words.proofs.Kit.{◌≡◌, refl, sym, ap, ◌∙◌, Bool, true, false, ⊎_elim, List, [], ◌∷◌, ◌++◌, ℕ, zero, suc, ◌+◌, ◌≤◌, ◌<◌, arith}
use Rattle.words.proofs.Kit.{◌/◌, ◌%◌, ◌^◌, eqb-true, ne_eqb, not-false, le-ltb, le-leb, ltb, length, take, drop}
use native.Mathlib.Nat.{zero-add, add-zero, add_assoc}
use borrow.Author.Tests.{ltb-true}
use lib.ListN.{length-drop}
use lib.Seq.{drop-drop, length-take-le}
use Rattle.words.specs.Tests.{pick, when, both}
use Rattle.words.specs.Word.{bits, has}
use Rattle.words.specs.SetBits.{bits_of, above}
use Rattle.words.specs.Outcome.{accepted}
use Rattle.words.specs.Part.{part}
use Rattle.words.proofs.Cases.{true_or_false, both_left, both_right, both_assoc}
use Rattle.words.proofs.RefusalLaws.{first_passed}
use Rattle.words.proofs.SetBitLaws.{bits_zero, bits_yes, bits_no, bits_mod, bits_parts, bits_split}
use Rattle.words.proofs.PartLaws.{part_is}
use Rattle.fields.specs.Sizes.{field_size, sizes_of, ascii_words, list_words, words_of}
use Rattle.fields.specs.Rules.{rule_of}
use Rattle.fields.specs.Layout.{span_of, obeyed, carried, indicator_of, body_words, place_of, field_of, inside_of, found_of, low_bits_set, other_length}
use Rattle.fields.specs.Layout.{rule_broken, context_list, context_of}
use Rattle.fields.proofs.SizeLaws.{size_none, words_fixed, words_none, sizes_none, sizes_more, sizes_append}
use Rattle.fields.proofs.RuleLaws.{rule_own}
use Rattle.fields.proofs.WalkLaws.{span_cons, rules_cons}

-- ---- an accepted body

-- no bit of 7-0 is set, the fields need the words that there are, and each obeys its rule
pub record Sound (body : List ℕ) : Type 0 where
  pub low : bits 7 0 (indicator_of body) ≡ 0
  pub whole : body_words body ≡ length body
  pub obeys : obeyed (carried (indicator_of body)) (drop 1 body) ≡ true

pub context_fits : (body : List ℕ) → context_of body ≡ accepted tt → Sound body
unfolding context_of low_bits_set other_length rule_broken
context_fits body e =
    let a = (first_passed (context_list body) _ tt e).0 in
    record {
      low = eqb-true _ 0 (not-false _ a.0);
      whole = eqb-true (body_words body) (length body) (not-false _ a.1.0);
      obeys = not-false _ a.1.1.0;
    }

-- ---- fields before and after each other

pub span_append : (fs bs ws : List ℕ) → span_of (fs ++ bs) ws ≡ span_of fs ws + span_of bs (drop (span_of fs ws) ws)
unfolding span_of
span_append [] bs ws = sym (zero-add (span_of bs ws))
span_append (f ∷ fs) bs ws = rw (span_append fs bs (drop (words_of f ws) ws), drop-drop, add_assoc)

obeyed_append : (fs bs ws : List ℕ) → obeyed (fs ++ bs) ws ≡ both (obeyed fs ws) (obeyed bs (drop (span_of fs ws) ws))
unfolding span_of obeyed
obeyed_append [] bs ws = refl
obeyed_append (f ∷ fs) bs ws = rw (obeyed_append fs bs (drop (words_of f ws) ws), drop-drop, both_assoc)

-- the words from a field on, counted past the indicator
pub place_drop : (b : ℕ) (body : List ℕ) → drop (place_of b body) body ≡ drop (span_of (above b (carried (indicator_of body))) (drop 1 body)) (drop 1 body)
unfolding place_of
place_drop b body = sym (drop-drop (span_of (above b (carried (indicator_of body))) (drop 1 body)) 1 body)

-- the words of a body from the field of bit b on, and those past that field
abbrev pub from_field : ℕ → List ℕ → List ℕ
from_field b body = drop (place_of b body) body

abbrev pub past_field : ℕ → List ℕ → List ℕ
past_field b body = drop (place_of b body + words_of b (from_field b body)) body

-- ---- the field of a carried bit b, among the fields of a body
module _ (b : ℕ) (body : List ℕ) (h : b < 31) (carries : has (indicator_of body) b ≡ true) where
  abbrev before : List ℕ
  before = above b (carried (indicator_of body))

  abbrev later : List ℕ
  later = bits_of b (indicator_of body)

  abbrev own : ℕ
  own = words_of b (from_field b body)

  -- the words of a body: those up to the field, its own, and those of the later fields
  pub body_split : body_words body ≡ place_of b body + (words_of b (from_field b body) + span_of (bits_of b (indicator_of body)) (past_field b body))
  unfolding body_words place_of
  body_split =
      let spans : span_of (carried (indicator_of body)) (drop 1 body) ≡ span_of before (drop 1 body) + span_of (b ∷ later) (from_field b body) =
      ap (λ (l : List ℕ). span_of l (drop 1 body)) (bits_split 31 (indicator_of body) b h carries)
      ∙ span_append before (b ∷ later) (drop 1 body)
      ∙ ap (λ (ws : List ℕ). span_of before (drop 1 body) + span_of (b ∷ later) ws) (sym (place_drop b body)) in
      omega (arith, span_cons b own (place_of b body) later body refl)

  -- the rules of a body: those of the fields before, its own, and those of the later fields
  pub rules_split : obeyed (carried (indicator_of body)) (drop 1 body)
      ≡ both (obeyed (above b (carried (indicator_of body))) (drop 1 body))
      (both (rule_of b (from_field b body)) (obeyed (bits_of b (indicator_of body)) (past_field b body)))
  rules_split =
      ap (λ (l : List ℕ). obeyed l (drop 1 body)) (bits_split 31 (indicator_of body) b h carries)
      ∙ obeyed_append before (b ∷ later) (drop 1 body)
      ∙ ap (both (obeyed before (drop 1 body))) (ap (obeyed (b ∷ later)) (sym (place_drop b body)) ∙ rules_cons b own (place_of b body) later body refl)

  -- of an accepted body
  module _ (fine : Sound body) where
    pub field_inside : place_of b body + words_of b (from_field b body) ≤ length body
    field_inside = omega (arith, body_split, fine.whole)

    pub field_obeys : rule_of b (from_field b body) ≡ true
    field_obeys =
        both_left (rule_of b (from_field b body)) (obeyed later (past_field b body))
        (both_right (obeyed before (drop 1 body)) (both (rule_of b (from_field b body)) (obeyed later (past_field b body))) (sym rules_split ∙ fine.obeys))

    -- it is found
    pub field_found : 8 ≤ b → found_of b body ≡ place_of b body ∷ words_of b (from_field b body) ∷ []
    unfolding found_of inside_of
    field_found g = rw (le-ltb 30 b (omega arith), le-ltb b 8 g, carries, le-leb (place_of b body + own) (length body) field_inside)

    pub field_length : length (field_of b body) ≡ words_of b (from_field b body)
    unfolding field_of
    field_length = length-take-le own (from_field b body) (omega (arith, field_inside, length-drop (place_of b body) body))

    -- one of fixed size obeys its rule by its own words
    pub field_rule : 10 ≤ b → rule_of b (field_of b body) ≡ true
    unfolding field_of
    field_rule g = ap (λ (n : ℕ). rule_of b (take n (from_field b body))) (words_fixed b (from_field b body) g) ∙ rule_own b (from_field b body) g h
        ∙ field_obeys

-- ---- places that only the indicator decides: fields from bit 9 up stand after fields of fixed size alone

fixed_step : (t : Bool) (b x : ℕ) (l ws : List ℕ) → 9 ≤ b → ltb b x ≡ t → ((us : List ℕ) → span_of l us ≡ sizes_of l)
    → span_of (pick t (x ∷ l) l) ws ≡ sizes_of (pick t (x ∷ l) l)
unfolding span_of sizes_of
fixed_step true b x l ws h e lower = rw (words_fixed x ws (omega (arith, ltb-true b x e)), lower (drop (field_size x) ws))
fixed_step false b x l ws h e lower = lower ws

-- fields of the bits above b, b at least 9, take the words of their rows
pub span_fixed : (b : ℕ) (bs ws : List ℕ) → 9 ≤ b → span_of (above b bs) ws ≡ sizes_of (above b bs)
unfolding span_of above sizes_of
span_fixed b [] ws h = refl
span_fixed b (x ∷ bs) ws h = fixed_step (ltb b x) b x (above b bs) ws h refl (λ us. span_fixed b bs us h)

-- the rules of the fields of the bits above b, b at least 9, and of those up to b, which stand behind them
module _ (k b n at : ℕ) (body : List ℕ) (h : b < k) (g : 9 ≤ b) where
  parts_rules : obeyed (bits_of k n) (drop at body)
      ≡ both (obeyed (above b (bits_of k n)) (drop at body)) (obeyed (bits_of (suc b) n) (drop (at + sizes_of (above b (bits_of k n))) body))
  parts_rules =
      ap (λ (l : List ℕ). obeyed l (drop at body)) (bits_parts k n b h) ∙ obeyed_append (above b (bits_of k n)) (bits_of (suc b) n) (drop at body)
      ∙ rw (span_fixed b (bits_of k n) (drop at body) g, drop-drop)

  pub parts_broken : obeyed (above b (bits_of k n)) (drop at body) ≡ false → false ≡ obeyed (bits_of k n) (drop at body)
  parts_broken o = sym (rw o at parts_rules)

  pub parts_kept : (p : ℕ) → obeyed (above b (bits_of k n)) (drop at body) ≡ true → p ≡ at + sizes_of (above b (bits_of k n))
      → obeyed (bits_of (suc b) n) (drop p body) ≡ obeyed (bits_of k n) (drop at body)
  parts_kept p o f = rw f (sym (rw o at parts_rules))

-- as a program walks them in parts: those above bit 21, p the place past them, and those above 17, q the place past these
module _ (n : ℕ) (body : List ℕ) where
  pub high_broken : obeyed (above 21 (bits_of 31 n)) (drop 1 body) ≡ false → false ≡ obeyed (bits_of 31 n) (drop 1 body)
  high_broken = parts_broken 31 21 n 1 body (omega arith) (omega arith)

  module _ (p : ℕ) (kept : obeyed (above 21 (bits_of 31 n)) (drop 1 body) ≡ true) (past : p ≡ 1 + sizes_of (above 21 (bits_of 31 n))) where
    high_kept : obeyed (bits_of 22 n) (drop p body) ≡ obeyed (bits_of 31 n) (drop 1 body)
    high_kept = parts_kept 31 21 n 1 body (omega arith) (omega arith) p kept past

    pub middle_broken : obeyed (above 17 (bits_of 22 n)) (drop p body) ≡ false → false ≡ obeyed (bits_of 31 n) (drop 1 body)
    middle_broken o = parts_broken 22 17 n p body (omega arith) (omega arith) o ∙ high_kept

    pub low_decides : (q : ℕ) (r : Bool) → obeyed (above 17 (bits_of 22 n)) (drop p body) ≡ true → q ≡ p + sizes_of (above 17 (bits_of 22 n))
        → r ≡ obeyed (bits_of 18 (n % 2 ^ 18)) (drop q body) → r ≡ obeyed (bits_of 31 n) (drop 1 body)
    low_decides q r middle after e =
        e ∙ ap (λ (l : List ℕ). obeyed l (drop q body)) (bits_mod 18 n) ∙ parts_kept 22 17 n p body (omega arith) (omega arith) q middle after ∙ high_kept

-- the fields of all bits: those of fixed size, then 9 and then 8, which stand last; lower bits have none
sizes_low : (k n : ℕ) → k ≤ 10 → sizes_of (bits_of k n) ≡ 0
sizes_low zero n h = rw (bits_zero n) sizes_none
sizes_low (suc k) n h =
    ⊎_elim
    (λ (y : has n k ≡ true). ap sizes_of (bits_yes k n y) ∙ omega (arith, sizes_more k (bits_of k n), size_none k (omega arith), sizes_low k n (omega arith)))
    (λ (y : has n k ≡ false). ap sizes_of (bits_no k n y) ∙ sizes_low k n (omega arith)) (true_or_false (has n k))

span_low : (k n : ℕ) (ws : List ℕ) → k ≤ 8 → span_of (bits_of k n) ws ≡ 0
unfolding span_of
span_low zero n ws h = rw (bits_zero n)
span_low (suc k) n ws h =
    ⊎_elim (λ (y : has n k ≡ true). rw (bits_yes k n y, words_none k ws (omega arith), zero-add) (span_low k n ws (omega arith)))
    (λ (y : has n k ≡ false). rw (bits_no k n y) (span_low k n ws (omega arith))) (true_or_false (has n k))

span_lists : (n : ℕ) (ws : List ℕ) → span_of (bits_of 9 n) ws ≡ when (has n 8) (list_words ws)
unfolding span_of words_of
span_lists n ws =
    ⊎_elim (λ (y : has n 8 ≡ true). rw (bits_yes 8 n y, y, span_low 8 n (drop (list_words ws) ws) (omega arith)) (add-zero (list_words ws)))
    (λ (y : has n 8 ≡ false). rw (bits_no 8 n y, y) (span_low 8 n ws (omega arith))) (true_or_false (has n 8))

span_last : (n a : ℕ) (ws : List ℕ) → a ≡ when (has n 9) (ascii_words ws) → span_of (bits_of 10 n) ws ≡ a + when (has n 8) (list_words (drop a ws))
unfolding span_of words_of
span_last n a ws e =
    ⊎_elim (λ (y : has n 9 ≡ true). let f : a ≡ ascii_words ws = rw y at e in rw (bits_yes 9 n y, ← f, span_lists n (drop a ws)))
    (λ (y : has n 9 ≡ false). let f : a ≡ 0 = rw y at e in rw (bits_no 9 n y, f, zero-add) (span_lists n ws)) (true_or_false (has n 9))

-- as a program finds their end, in a body: f words of fixed size, a words of field 9 and l of field 8
pub end_counted : (n f a l : ℕ) (body : List ℕ) → f ≡ sizes_of (bits_of 31 n) → a ≡ when (has n 9) (words_of 9 (drop (1 + f) body))
    → l ≡ when (has n 8) (words_of 8 (drop (1 + f + a) body)) → 1 + f + a + l ≡ 1 + span_of (bits_of 31 n) (drop 1 body)
unfolding words_of
end_counted n f a l body ef ea el =
    let all : List ℕ = bits_of 31 n in
    let ws : List ℕ = drop 1 body in
    let parts : bits_of 31 n ≡ above 9 all ++ bits_of 10 n = bits_parts 31 n 9 (omega arith) in
    let fixed : span_of (above 9 all) ws ≡ f =
    span_fixed 9 all ws (omega arith) ∙ omega (arith, ap sizes_of parts, sizes_append (above 9 all) (bits_of 10 n), sizes_low 10 n (omega arith)) in
    let behind : drop (1 + f) body ≡ drop f ws = sym (drop-drop f 1 body) in
    let last = span_last n a (drop f ws) (ea ∙ ap (λ (us : List ℕ). when (has n 9) (ascii_words us)) behind) in
    let past : drop (1 + f + a) body ≡ drop a (drop f ws) = sym (drop-drop a (1 + f) body) ∙ ap (drop a) behind in
    let lists : l ≡ when (has n 8) (list_words (drop a (drop f ws))) = el ∙ ap (λ (us : List ℕ). when (has n 8) (list_words us)) past in
    let whole : span_of all ws ≡ f + span_of (bits_of 10 n) (drop f ws) =
    ap (λ (bs : List ℕ). span_of bs ws) parts ∙ span_append (above 9 all) (bits_of 10 n) ws ∙ rw fixed in
    omega (arith, whole, last, lists)

-- where field 8 is not there
pub end_ninth : (n f a : ℕ) (body : List ℕ) → has n 8 ≡ false → f ≡ sizes_of (bits_of 31 n) → a ≡ when (has n 9) (words_of 9 (drop (1 + f) body))
    → 1 + f + a ≡ 1 + span_of (bits_of 31 n) (drop 1 body)
end_ninth n f a body none e g = rw (add-zero (1 + f + a)) at (end_counted n f a 0 body e g (rw none))

-- where neither is there
pub end_fixed : (n f : ℕ) (body : List ℕ) → f ≡ sizes_of (bits_of 31 n) → n / 256 % 4 ≡ 0 → 1 + f ≡ 1 + span_of (bits_of 31 n) (drop 1 body)
end_fixed n f body e z =
    let nine : has n 9 ≡ false = ne_eqb (n / 2 ^ 9 % 2) 1 (λ o. omega arith) in
    let eight : has n 8 ≡ false = ne_eqb (n / 2 ^ 8 % 2) 1 (λ o. omega arith) in
    rw (add-zero (1 + f)) at (end_ninth n f 0 body eight e (rw nine))

pub place_fixed : (b : ℕ) (body : List ℕ) → 9 ≤ b → place_of b body ≡ 1 + sizes_of (above b (carried (indicator_of body)))
unfolding place_of
place_fixed b body h = ap (λ (n : ℕ). 1 + n) (span_fixed b (carried (indicator_of body)) (drop 1 body) h)

-- and have the words of their rows
pub field_fixed : (b : ℕ) (body : List ℕ) → 10 ≤ b → field_of b body ≡ part (1 + sizes_of (above b (carried (indicator_of body)))) (field_size b) body
unfolding field_of
field_fixed b body h =
    ap (λ (n : ℕ). take n (from_field b body)) (words_fixed b (from_field b body) h) ∙ sym (part_is (place_of b body) (field_size b) body)
    ∙ ap (λ (n : ℕ). part n (field_size b) body) (place_fixed b body (omega arith))
