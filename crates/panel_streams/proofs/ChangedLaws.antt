-- Fields that are not the same in two records. The idea: a word marked bit by bit has the bits whose tests hold, so a loop that marks one bit
-- more goes from `marked k` to `marked (k + 1)`; and the held words of a field are parts of the two records at one place, of the same words where they are as
-- many and none of them differs. The loop takes the place among the slots along, back from their end (`slot_back`).
use Rattle.words.proofs.Kit.{◌≡◌, refl, sym, ap, ap₂, ◌∙◌, Bool, true, false, not, ⊎_elim, List, [], ◌∷◌, ℕ, ◌+◌, ◌-◌, ◌*◌, ◌^◌, ◌≤◌, ◌<◌, arith}
use Rattle.words.proofs.Kit.{eq-eqb, ne_eqb, eqb-true, le-leb, lt-leb, not-true, not-false, eqb, leb, length, take, drop, get_or}
use mathlib.Core.Bool.{◌&&◌}
use borrow.Author.Tests.{leb-false}
use native.Mathlib.Nat.{add-zero}
use native.Mathlib.Numerals.{add-one}
use lib.Seq.{ext_get_or}
use lib.Pointwise.{pointwise}
use lib.Pow.{pow_mono}
use Rattle.words.specs.Numbers.{TABLE, STREAM}
use Rattle.words.specs.Tests.{when, both, same_words}
use Rattle.words.specs.Word.{has, marked}
use Rattle.words.specs.Part.{part}
use Rattle.words.specs.All.{all}
use Rattle.words.specs.Outcome.{refused, accepted}
use Rattle.words.proofs.Cases.{same_test, true_or_false, both_left, both_right, both_no, true_is_false, same_words_lem, words_same}
use Rattle.words.proofs.RefusalLaws.{first_passed, first_refused, first_fine, either_passed}
use Rattle.words.proofs.BitLaws.{marked_small, marked_has, marked_none}
use Rattle.words.proofs.AllLaws.{all_at, all_intro, all_more, all_fails}
use Rattle.words.proofs.PartLaws.{seen, part_length, get_d_part}
use Rattle.fields.specs.Sizes.{field_size}
use Rattle.record.specs.Held.{slotted, slot_at}
use Rattle.record.specs.Layout.{head_words, record_words, is_held, held_words_in}
use Rattle.record.proofs.SlotLaws.{slotted_not, slotted_all, slot_before}
use Rattle.record.proofs.GoodLaws.{Passing, passing_end}
use Rattle.record.proofs.HeldWordsLaws.{held_most, held_part, held_length}
use Rattle.table.specs.Layout.{streams_of, base, Has, record_at}
use Rattle.table.specs.Well.{well_made}
use Rattle.table.proofs.WellLaws.{layout_has, well_whole, well_few}
use Rattle.panel_streams.specs.Changed.{differs, changed_in, changed_list, changed_of}
use Rattle.panel_streams.specs.inner.Asked.{changed_checks}

-- ---- what the bits say

module _ (r q : List ℕ) where
  -- bits 30 to 10 alone
  pub changed_bit : (b : ℕ) → b < 31 → has (changed_in r q) b ≡ differs r q b
  unfolding changed_in
  changed_bit b h = marked_has 31 (differs r q) b h

  pub changed_small : changed_in r q < 2 ^ 31
  unfolding changed_in
  changed_small = marked_small 31 (differs r q)

  -- both ways: a bit is set where the words are not the same, and the words are the same where it is not
  pub changed_set : (b : ℕ) → b < 31 → has (changed_in r q) b ≡ true → (slotted b ≡ true) × (held_words_in b r ≡ held_words_in b q → ⊥)
  unfolding differs
  changed_set b h e =
      let d : differs r q b ≡ true = sym (changed_bit b h) ∙ e in (
        both_left (slotted b) _ d,
        λ f.
            true_is_false
            (sym (both_right (slotted b) _ d) ∙ ap (λ (ws : List ℕ). not (same_words ws (held_words_in b q))) f ∙ ap not (words_same (held_words_in b q))),
      )

  pub changed_not : (b : ℕ) → b < 31 → slotted b ≡ true → has (changed_in r q) b ≡ false → held_words_in b r ≡ held_words_in b q
  unfolding differs
  changed_not b h o e =
      let d : both (slotted b) (not (same_words (held_words_in b r) (held_words_in b q))) ≡ false = sym (changed_bit b h) ∙ e in
      same_words_lem _ _ (not-false (same_words (held_words_in b r) (held_words_in b q)) (rw o at d))

-- a record and itself
pub changed_self : (r : List ℕ) → changed_in r r ≡ 0
unfolding changed_in differs
changed_self r = marked_none 31 (differs r r) (λ b h. rw (words_same (held_words_in b r)) (both_no (slotted b)))

-- ---- the loop that marks: the bits below 10 are of no held field
module _ (r q : List ℕ) where
  pub marking_start : 0 ≡ marked 10 (differs r q)
  unfolding differs
  marking_start = sym (marked_none 10 (differs r q) (λ b h. rw (slotted_not b h)))

  module _ (word bit : ℕ) (e : word ≡ marked bit (differs r q)) where
    pub marking_small : word < 2 ^ bit
    marking_small = rw e (marked_small bit (differs r q))

    pub marking_turn : (next : ℕ) (t : Bool) → t ≡ differs r q bit → next ≡ word + when t (2 ^ bit) → next ≡ marked (bit + 1) (differs r q)
    unfolding marked
    marking_turn next t f g = g ∙ rw (f, e, add-one bit)

    pub marking_end : bit ≤ 31 → 31 ≤ bit → word ≡ changed_in r q
    unfolding changed_in
    marking_end h l = let m : bit ≡ 31 = omega arith in e ∙ ap (λ (k : ℕ). marked k (differs r q)) m

-- the place among the slots that goes back with a loop over the bits below top: before a turn it is the end of the bit's slot, which has n words; after it,
-- the slot's beginning, which is the end of the next bit's
module _ (bit slot n top : ℕ) (lo : 10 ≤ bit) (hi : bit < top) (few : top ≤ 31) (e : slot ≡ slot_at (bit - 1)) (f : n ≡ field_size bit) where
  pub slot_back_inside : n ≤ slot
  slot_back_inside = (slot_before bit slot n (slotted_all bit lo (omega arith)) e f).0

  pub slot_back : slot - n ≡ slot_at bit
  slot_back = (slot_before bit slot n (slotted_all bit lo (omega arith)) e f).1

  pub slot_back_turn : slot - n ≡ slot_at (bit + 1 - 1)
  slot_back_turn = let passed : bit ≡ bit + 1 - 1 = omega arith in slot_back ∙ ap slot_at passed

-- one bit, as a program sets it: p is its weight
pub weight_fits : (bit p : ℕ) → bit ≤ 30 → p ≡ 2 ^ bit → p < 2 ^ 32
weight_fits bit p h e = omega (arith, e, pow_mono {i = bit} {j = 30} h)

pub sum_fits : (word bit p : ℕ) → bit ≤ 30 → word < 2 ^ bit → p ≡ 2 ^ bit → word + p < 2 ^ 32
sum_fits word bit p h l e = omega (arith, e, pow_mono {i = bit} {j = 30} h)

module _ (word bit p : ℕ) (t : Bool) where
  pub bit_set : t ≡ true → p ≡ 2 ^ bit → word + p ≡ word + when t (2 ^ bit)
  bit_set e f = rw (e, f)

  pub bit_clear : t ≡ false → word ≡ word + when t (2 ^ bit)
  bit_clear e = rw (e, add-zero word)

-- ---- words that are the same in both: what `==` answers of two lists

equal_words : (xs ys : List ℕ) → pointwise eqb xs ys ≡ same_words xs ys
unfolding same_words
equal_words [] [] = refl
equal_words [] (y ∷ ys) = refl
equal_words (x ∷ xs) [] = refl
equal_words (x ∷ xs) (y ∷ ys) = joined (eqb x y) (pointwise eqb xs ys) (same_words xs ys) (equal_words xs ys)
  where
    joined : (t s r : Bool) → s ≡ r → (t && s) ≡ both t r
    joined true s r e = e
    joined false s r e = refl

-- ---- a field: h and g are whether the one record holds it and the other, n and m how many words they hold
module _ (r q : List ℕ) (b z n m : ℕ) (h g : Bool) (l : length r ≡ record_words) (k : length q ≡ record_words) (lo : 10 ≤ b) (hi : b ≤ 30)
    (ez : z ≡ field_size b) (eh : h ≡ is_held b r) (eg : g ≡ is_held b q) (en : n ≡ when h z) (em : m ≡ when g z) where
  pub differs_size : (n ≡ m → ⊥) → true ≡ differs r q b
  unfolding differs
  differs_size x =
      let none : same_words (held_words_in b r) (held_words_in b q) ≡ false =
      ⊎_elim
      (λ e.
      absurd
      (x (sym (held_length r b (slot_at b) z l lo hi refl ez n h eh en) ∙ ap length (same_words_lem _ _ e)
      ∙ held_length q b (slot_at b) z k lo hi refl ez m g eg em)))
      (λ e. e) (true_or_false (same_words (held_words_in b r) (held_words_in b q))) in
      rw (slotted_all b lo (omega arith), none)

  module _ (at : ℕ) (ea : at ≡ slot_at b) (e : n ≡ m) where
    pub field_inside : head_words + at + n ≤ length r
    field_inside = held_most r b at z l lo hi ea ez n h eh en

    pub field_fits : head_words + at < 2 ^ 64
    field_fits = omega (arith, l, field_inside)

    pub field_offset : (head_words + at) * 4 < 2 ^ 64
    field_offset = omega (arith, l, field_inside)

    pub field_end : head_words + at + n < 2 ^ 64
    field_end = omega (arith, l, field_inside)

    pub field_other : head_words + at + n ≤ length q
    field_other = held_most q b at z k lo hi ea ez n g eg (e ∙ em)

    -- the n words that the program compares
    abbrev there : List ℕ → List ℕ
    there ws = take (head_words + at + n - (head_words + at)) (drop (head_words + at) ws)

    pub differs_words : (t : Bool) → t ≡ not (pointwise eqb (there r) (there q)) → t ≡ differs r q b
    unfolding differs
    differs_words t f =
        let place = head_words + at in
        f ∙ rw (
          equal_words (there r) (there q),
          seen place (place + n) n r refl,
          seen place (place + n) n q refl,
          slotted_all b lo (omega arith),
          held_part r b at z l lo hi ea ez n h eh en,
          held_part q b at z k lo hi ea ez n g eg (e ∙ em),
        )

-- ---- records that are lent from their places on
pub changed_lent : (t u : List ℕ) (s v at to word : ℕ) → at ≡ base s → to ≡ base v
    → word ≡ changed_in (take (at + record_words - at) (drop at t)) (take (to + record_words - to) (drop to u))
    → word ≡ changed_in (record_at s t) (record_at v u)
unfolding record_at
changed_lent t u s v at to word e f h =
    h ∙ ap₂ changed_in (seen at (at + record_words) record_words t refl ∙ ap (λ (a : ℕ). part a record_words t) e)
    (seen to (to + record_words) record_words u refl ∙ ap (λ (a : ℕ). part a record_words u) f)

-- ---- what is refused, as a program asks: w and x are the answers of `well_made`, and n and m are S
module _ (t u : List ℕ) (s v : ℕ) (w : Bool) (e : w ≡ well_made t) where
  pub changed_ill : not w ≡ true → refused TABLE ≡ changed_checks t s u v
  unfolding changed_checks
  changed_ill i = rw (← e, not-true w i)

  module _ (x : Bool) (i : not w ≡ false) (f : x ≡ well_made u) where
    pub changed_other_ill : not x ≡ true → refused TABLE ≡ changed_checks t s u v
    unfolding changed_checks
    changed_other_ill j = rw (← e, not-false w i, ← f, not-true x j)

    module _ (n : ℕ) (j : not x ≡ false) (en : n ≡ streams_of t) where
      pub changed_over : n ≤ s → refused STREAM ≡ changed_checks t s u v
      unfolding changed_checks
      changed_over h = rw (← e, not-false w i, ← f, not-false x j, ← en, le-leb n s h)

      pub changed_other_over : (m : ℕ) → s < n → m ≡ streams_of u → m ≤ v → refused STREAM ≡ changed_checks t s u v
      unfolding changed_checks
      changed_other_over m h em k = rw (← e, not-false w i, ← f, not-false x j, ← en, lt-leb n s h, ← em, le-leb m v k)

      pub changed_fine : (m : ℕ) → s < n → m ≡ streams_of u → v < m → accepted tt ≡ changed_checks t s u v
      unfolding changed_checks
      changed_fine m h em k = rw (← e, not-false w i, ← f, not-false x j, ← en, lt-leb n s h, ← em, lt-leb m v k)

-- ---- the public answer, k being what the check found
module _ (t u : List ℕ) (s v : ℕ) where
  module _ (e : accepted tt ≡ changed_checks t s u v) where
    facts : (s < 32) × Has s t × (v < 32) × Has v u
    unfolding changed_checks
    facts =
        let a = (first_passed (changed_list t s u v) _ tt (sym e)).0 in
        let w = either_passed (not (well_made t)) (not (well_made u)) a.0 in
        let n = either_passed (leb (streams_of t) s) (leb (streams_of u) v) a.1.0 in
        let one = not-false (well_made t) w.0 in
        let other = not-false (well_made u) w.1 in
        let below : s < streams_of t = leb-false (streams_of t) s n.0 in
        let under : v < streams_of u = leb-false (streams_of u) v n.1 in
        (omega (arith, well_few t one), layout_has t s (well_whole t one) below, omega (arith, well_few u other), layout_has u v (well_whole u other) under)

    pub changed_few : s < 32
    changed_few = facts.0

    pub changed_has : Has s t
    changed_has = facts.1

    pub changed_other_few : v < 32
    changed_other_few = facts.2

    pub changed_other_has : Has v u
    changed_other_has = facts.3

    pub changed_said : (w : ℕ) → w ≡ changed_in (record_at s t) (record_at v u) → accepted w ≡ changed_of t s u v
    unfolding changed_of changed_checks
    changed_said w h = ap accepted h ∙ sym (first_fine (changed_list t s u v) tt tt _ (sym e))

  pub changed_refused : (n : ℕ) → refused n ≡ changed_checks t s u v → refused n ≡ changed_of t s u v
  unfolding changed_of changed_checks
  changed_refused n e = sym (first_refused (changed_list t s u v) tt n _ (sym e))
