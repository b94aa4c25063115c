-- How a program tests a page. The idea: while the pairs before it are right, body s begins where the lengths say (`Paired`), so one pass tests them all; the
-- identifiers are gathered into a list (`Gathering`), and each test is a row of its definition. The record of a body need not be made to be tested: its
-- first words are the body's, the slots of held fields have the words that a walk over the body finds, and the other slots are zero (`rules_below`).
use Rattle.words.proofs.Kit.{◌≡◌, refl, sym, ap, ap₂, ◌∙◌, Bool, true, false, not, ⊎_elim, List, ℕ, zero, suc, ◌+◌, ◌-◌, ◌*◌, ◌/◌, ◌%◌, ◌^◌, ◌≤◌, ◌<◌, arith}
use Rattle.words.proofs.Kit.{eq-eqb, ne_eqb, le-leb, lt-leb, not-true, not-false, eqb, leb, length, take, drop, get_or, set}
use native.Mathlib.Nat.{zero-add, add-zero, one-mul, mod-lt}
use native.Mathlib.Numerals.{add-one}
use lib.Bits.{bit_and}
use lib.ListN.{length-set}
use lib.Seq.{get_or-set_same, get_or-set_other, get_or-drop, drop-drop}
use Rattle.words.specs.Tests.{pick, both}
use Rattle.words.specs.Word.{has}
use Rattle.words.specs.SetBits.{bits_of}
use Rattle.words.specs.All.{all}
use Rattle.words.proofs.Cases.{le_or_lt, true_or_false, both_yes, both_no, pick_true}
use Rattle.words.proofs.AllLaws.{all_none, all_more, all_fails, all_end, all_same}
use Rattle.words.proofs.PartLaws.{part_is, get_d_part}
use Rattle.words.proofs.SetBitLaws.{bits_zero, bits_yes, bits_no, bits_trim, bits_mod}
use Rattle.fields.specs.Sizes.{field_size, sizes_of}
use Rattle.fields.specs.Rules.{rule_of}
use Rattle.fields.specs.Layout.{obeyed}
use Rattle.fields.proofs.PlaceLaws.{rest_whole}
use Rattle.fields.proofs.SizeLaws.{sizes_more, size_some, words_fixed}
use Rattle.fields.proofs.RuleLaws.{rule_own}
use Rattle.fields.proofs.WalkLaws.{rules_cons}
use Rattle.record.specs.Held.{slot_mask, slotted}
use Rattle.record.specs.State.{state_good}
use Rattle.record.specs.Layout.{head_words, held_of, count_at, count_words, last_of, choice_of, slot_of}
use Rattle.record.specs.Good.{count_good_at, held_good, choice_good, record_good}
use Rattle.record.specs.inner.Head.{head_good}
use Rattle.record.proofs.SlotLaws.{placed, placed_split, slotted_low, slotted_high, slotted_all}
use Rattle.record.proofs.HoldLaws.{within_slotted, held_within}
use Rattle.record.proofs.GoodLaws.{slot_ruled, slots_ruled, counts_at, last_at, zeros_good, good_head_ill, good_slots}
use Rattle.table.specs.Identifiers.{spaced, list_good}
use Rattle.table.proofs.ListLaws.{list_same}
use Rattle.page.specs.Body.{page_body_words, record_of}
use Rattle.page.specs.Layout.{contents_words, bodies_in, offset_at, length_at, begins_at}
use Rattle.page.specs.inner.Tested.{pair_good, pairs_good, contents_good, identifier_at, Gathered, state_good_in, record_good_in, page_ok}
use Rattle.page.proofs.BodyLaws.{head_within, body_some, record_word, record_slot}
use Rattle.page.proofs.ContentsLaws.{pair_of, contents_of}

-- ---- one pair: a is its offset, l its length, and w the words of the held indicator of its body; the bodies before it end at the place at

pair_tests : (p : List ℕ) (s at a l w held : ℕ) (rest r : Bool) → at ≡ begins_at p s → a ≡ offset_at p s → l ≡ length_at p s → held ≡ get_or p (at + 1) 0
    → w ≡ page_body_words held → rest ≡ both (leb (at + l) (length p)) (eqb l w) → r ≡ both (eqb a at) rest → r ≡ pair_good p s
unfolding pair_good
pair_tests p s at a l w held rest r e f g h o i j = j ∙ rw (i, o, h, f, g, e)

-- as a program asks: the offset, then the end, then the length
module _ (p : List ℕ) (s at a : ℕ) (e : at ≡ begins_at p s) (f : a ≡ offset_at p s) where
  pub pair_elsewhere : (a ≡ at → ⊥) → false ≡ pair_good p s
  pair_elsewhere h = rw (ne_eqb a at h) at (pair_tests p s at a (length_at p s) _ _ _ _ e f refl refl refl refl refl)

  module _ (o : a ≡ at) (l : ℕ) (g : l ≡ length_at p s) where
    pub pair_outside : length p < at + l → leb (at + l) (length p) ≡ pair_good p s
    pair_outside h =
        rw (lt-leb (at + l) (length p) h)
        (rw (eq-eqb a at o, lt-leb (at + l) (length p) h) at (pair_tests p s at a l _ _ _ _ e f g refl refl refl refl))

    pub pair_inside : (held w : ℕ) → at + l ≤ length p → held ≡ get_or p (at + 1) 0 → w ≡ page_body_words held → eqb l w ≡ pair_good p s
    pair_inside held w h i k = rw (eq-eqb a at o, le-leb (at + l) (length p) h) at (pair_tests p s at a l w held _ _ e f g i k refl refl)

-- ---- the loop that tests the pairs, b being the answer to pair s

pub record Paired (p : List ℕ) (n s at : ℕ) : Type 0 where
  pub most : s ≤ n
  pub right : all s (pair_good p) ≡ true
  pub here : at ≡ begins_at p s
  pub inside : at ≤ length p

pub paired_start : (p : List ℕ) (n at : ℕ) → n ≡ bodies_in p → at ≡ contents_words n → contents_words n ≤ length p → Paired p n 0 at
unfolding begins_at
paired_start p n at e f h = record { most = omega arith; right = all_none (pair_good p); here = f ∙ ap contents_words e; inside = rw f h }

pub paired_fails : (p : List ℕ) (n s : ℕ) (b : Bool) → b ≡ pair_good p s → not b ≡ true → s < n → false ≡ pairs_good p n
paired_fails p n s b e i h = rw (all_fails (pair_good p) n s h (sym e ∙ not-true b i))

pub paired_turn : (p : List ℕ) (n s at l : ℕ) (b : Bool) → Paired p n s at → b ≡ pair_good p s → not b ≡ false → l ≡ length_at p s → s < n
    → Paired p n (s + 1) (at + l)
unfolding begins_at
paired_turn p n s at l b q e i g h =
    let right : pair_good p s ≡ true = sym e ∙ not-false b i in
    record {
      most = omega arith;
      right = all_more (pair_good p) s q.right right;
      here = rw (add-one s) (omega (arith, q.here));
      inside = omega (arith, q.here, (pair_of p s right).inside);
    }

pub paired_end : (p : List ℕ) (n s at : ℕ) → Paired p n s at → n ≤ s → eqb at (length p) ≡ pairs_good p n
paired_end p n s at q h =
    let i : s ≡ n = omega (arith, q.most) in
    let b : at ≡ begins_at p n = q.here ∙ ap (begins_at p) i in
    rw (all_end (pair_good p) n s i q.right, ← b)

-- ---- the contents, n being S and m the words of the contents

module _ (p : List ℕ) (n : ℕ) (e : n ≡ bodies_in p) where
  pub contents_many : 32 < n → false ≡ contents_good p
  unfolding contents_good
  contents_many h = rw (← e, lt-leb n 32 h)

  module _ (m : ℕ) (few : n ≤ 32) (d : m ≡ contents_words n) where
    pub contents_short : length p < m → false ≡ contents_good p
    unfolding contents_good
    contents_short h = rw (← e, le-leb n 32 few, ← d, lt-leb m (length p) h)

    module _ (second : ℕ) (room : m ≤ length p) (f : second ≡ get_or p 1 0) where
      pub contents_other : (second ≡ length p → ⊥) → false ≡ contents_good p
      unfolding contents_good
      contents_other h = rw (← e, le-leb n 32 few, ← d, le-leb m (length p) room, ← f, ne_eqb second (length p) h)

      pub contents_all : (b : Bool) → second ≡ length p → b ≡ pairs_good p n → b ≡ contents_good p
      unfolding contents_good
      contents_all b h g = rw (← e, le-leb n 32 few, ← d, le-leb m (length p) room, ← f, eq-eqb second (length p) h) g

-- ---- the identifiers

pub record Gathering (p before ids : List ℕ) (n s : ℕ) : Type 0 where
  pub most : s ≤ n
  pub same : length ids ≡ length before
  pub found : Gathered s p ids

pub gathering_start : (p ids : List ℕ) (n : ℕ) → Gathering p ids ids n 0
gathering_start p ids n = record { most = omega arith; same = refl; found = λ s h. absurd (omega arith) }

pub gathering_turn : (p before ids : List ℕ) (n s at w : ℕ) → Gathering p before ids n s → s < n → n ≤ length before → at ≡ offset_at p s → w ≡ get_or p at 0
    → Gathering p before (set ids s w) n (s + 1)
gathering_turn p before ids n s at w q h l e f = record {
  most = omega arith;
  same = length-set ids s w ∙ q.same;
  found = λ u g.
      ⊎_elim (λ (k : s ≤ u). let i : u ≡ s = omega arith in rw i (get_or-set_same ids s w 0 (omega (arith, q.same)) ∙ f ∙ ap (λ (x : ℕ). get_or p x 0) e))
      (λ (k : u < s). get_or-set_other ids s u w 0 (omega arith) ∙ q.found u k) (le_or_lt s u);
}

pub gathering_end : (p before ids : List ℕ) (n s : ℕ) → Gathering p before ids n s → n ≤ s → Gathered n p ids
gathering_end p before ids n s q h = λ u g. q.found u (omega arith)

pub list_gathered : (p ids : List ℕ) (n : ℕ) (b : Bool) → b ≡ list_good n (spaced 0 1 ids) → Gathered n p ids → b ≡ list_good n (identifier_at p)
list_gathered p ids n b e g =
    e ∙ list_same n (spaced 0 1 ids) (identifier_at p) (λ s h. ap (λ (i : ℕ). get_or ids i 0) (zero-add (1 * s) ∙ one-mul s) ∙ g s h)

-- ---- the record of a body, as a program tests it in the body

both_swap : (s t : Bool) → both s t ≡ both t s
both_swap true t = sym (both_yes t)
both_swap false t = sym (both_no t)

module _ (b : List ℕ) (l : length b ≡ page_body_words (held_of b)) where
  -- the slot of a field that is held, and of one that is not
  slot_held : (x : ℕ) → slotted x ≡ true → has (held_of b) x ≡ true → slot_ruled (record_of b) x
      ≡ rule_of x (drop (placed 31 (held_of b) x) (drop head_words b))
  slot_held x o y =
      let h : held_of (record_of b) ≡ held_of b = record_word b 1 (omega arith) (body_some b l) in
      rw (o, h, y, record_slot b l x o, y, part_is (placed 31 (held_of b) x) (field_size x) (drop head_words b))
      (rule_own x _ (slotted_low x o) (slotted_high x o))

  slot_blank : (x : ℕ) → has (held_of b) x ≡ false → slot_ruled (record_of b) x ≡ true
  slot_blank x n =
      let h : held_of (record_of b) ≡ held_of b = record_word b 1 (omega arith) (body_some b l) in
      pick_true (slotted x) _ (λ o. rw (h, n, record_slot b l x o, n) (zeros_good (field_size x)))

  -- the fields of the bits below k, which stand from a on among the held words
  rules_below : (k a : ℕ) → bit_and (held_of b) slot_mask ≡ held_of b → k ≤ 31 → a + sizes_of (bits_of k (held_of b)) ≡ sizes_of (bits_of 31 (held_of b))
      → obeyed (bits_of k (held_of b)) (drop a (drop head_words b)) ≡ all k (slot_ruled (record_of b))
  unfolding all obeyed
  rules_below zero a w h e = rw (bits_zero (held_of b))
  rules_below (suc k) a w h e =
      let held : ℕ = held_of b in
      let ws : List ℕ = drop head_words b in
      ⊎_elim
      (λ (y : has held k ≡ true).
      let o : slotted k ≡ true = within_slotted held w k y in
      let f : sizes_of (bits_of (suc k) held) ≡ field_size k + sizes_of (bits_of k held) = ap sizes_of (bits_yes k held y) ∙ sizes_more k (bits_of k held) in
      let i : a ≡ placed 31 held k = omega (arith, e, f, placed_split 31 held k (omega arith) y) in
      ap (λ (bs : List ℕ). obeyed bs (drop a ws)) (bits_yes k held y)
      ∙ rules_cons k (field_size k) a (bits_of k held) ws (sym (words_fixed k (drop a ws) (slotted_low k o)))
      ∙ ap₂ both (ap (λ (n : ℕ). rule_of k (drop n ws)) i ∙ sym (slot_held k o y)) (rules_below k (a + field_size k) w (omega arith) (omega (arith, e, f)))
      ∙ both_swap (slot_ruled (record_of b) k) (all k (slot_ruled (record_of b))))
      (λ (n : has held k ≡ false).
      ap (λ (bs : List ℕ). obeyed bs (drop a ws)) (bits_no k held n)
      ∙ rules_below k a w (omega arith) (omega (arith, e, ap sizes_of (bits_no k held n)))
      ∙ sym (ap (both (all k (slot_ruled (record_of b)))) (slot_blank k n) ∙ both_yes (all k (slot_ruled (record_of b)))))
      (true_or_false (has held k))

  -- the state word of the record is that of the body
  state_in_lem : state_good_in b ≡ pick (has (held_of (record_of b)) 16) (state_good (get_or (slot_of 16 (record_of b)) 0 0)) true
  unfolding state_good_in
  state_in_lem =
      let h : held_of (record_of b) ≡ held_of b = record_word b 1 (omega arith) (body_some b l) in
      let some : 0 < field_size 16 = size_some 16 (omega arith) (omega arith) in
      ⊎_elim
      (λ (y : has (held_of b) 16 ≡ true).
      rw (h, y, record_slot b l 16 (slotted_all 16 (omega arith) (omega arith)), y)
      (ap state_good (sym (get_d_part (placed 31 (held_of b) 16) (field_size 16) 0 (drop head_words b) some
      ∙ get_or-drop head_words b (placed 31 (held_of b) 16 + 0) 0
      ∙ ap (λ (k : ℕ). get_or b (head_words + k) 0) (add-zero (placed 31 (held_of b) 16))))))
      (λ (y : has (held_of b) 16 ≡ false). rw (h, y)) (true_or_false (has (held_of b) 16))

  -- the counts are those of the body
  count_same : (k : ℕ) → k < 4 → count_good_at b k ≡ count_good_at (record_of b) k
  count_same k h =
      let word : (i : ℕ) → i < 3 → get_or b (count_at k + i) 0 ≡ get_or (record_of b) (count_at k + i) 0 = λ i g. sym
      (record_word b (count_at k + i) (omega arith) (body_some b l)) in
      let first : get_or b (count_at k) 0 ≡ get_or (record_of b) (count_at k) 0 = sym (record_word b (count_at k) (omega arith) (body_some b l)) in
      counts_at b k ∙ rw (first, word 1 (omega arith), word 2 (omega arith)) (sym (counts_at (record_of b) k))

  -- head is the test of the first words
  module _ (head : Bool) (e : head ≡ head_good b) where
    head_same : head ≡ head_good (record_of b)
    unfolding head_good
    head_same =
        let h : held_of b ≡ held_of (record_of b) = sym (record_word b 1 (omega arith) (body_some b l)) in
        let last : last_of (count_words 2 b) ≡ last_of (count_words 2 (record_of b)) = last_at b ∙ sym (record_word b 10 (omega arith) (body_some b l))
        ∙ sym (last_at (record_of b)) in
        let chosen : choice_of b ≡ choice_of (record_of b) = sym (record_word b 14 (omega arith) (body_some b l)) in
        e ∙ ap₂ both (ap₂ held_good h last) (ap₂ both (all_same (count_good_at b) (count_good_at (record_of b)) 4 count_same) (ap choice_good chosen))

    pub body_ill : not head ≡ true → false ≡ record_good (record_of b)
    body_ill i = good_head_ill (record_of b) head head_same (not-true head i)

    module _ (i : not head ≡ false) where
      body_within : bit_and (held_of b) slot_mask ≡ held_of b
      unfolding head_good
      body_within = held_within (held_of b) (head_within b _ (sym e ∙ not-false head i))

      -- the walk begins one word before the held words; `state` is the answer to the state word
      body_rules : (kept state r : Bool) → kept ≡ obeyed (bits_of 31 (held_of b)) (drop 1 (take (length b - (head_words - 1)) (drop (head_words - 1) b)))
          → state ≡ state_good_in b → r ≡ both kept state → r ≡ record_good (record_of b)
      body_rules kept state r g f o =
          let d : drop 1 (take (length b - (head_words - 1)) (drop (head_words - 1) b)) ≡ drop head_words b = ap (drop 1) (rest_whole (head_words - 1) b)
          ∙ drop-drop 1 (head_words - 1) b in
          let ruled : kept ≡ all 31 (slot_ruled (record_of b)) = g ∙ rw d (rules_below 31 0 body_within (omega arith) (zero-add _)) in
          good_slots (record_of b) head head_same r (not-false head i) (o ∙ ap₂ both ruled (f ∙ state_in_lem) ∙ sym (slots_ruled (record_of b)))

      -- the walk, and then the state word
      module _ (kept : Bool) (g : kept ≡ obeyed (bits_of 31 (held_of b)) (drop 1 (take (length b - (head_words - 1)) (drop (head_words - 1) b)))) where
        pub body_broken : kept ≡ false → kept ≡ record_good (record_of b)
        body_broken h = body_rules kept (state_good_in b) kept g refl (rw h)

        pub body_kept : (state : Bool) → kept ≡ true → state ≡ state_good_in b → state ≡ record_good (record_of b)
        body_kept state h f = body_rules kept state state g f (rw h)

-- ---- the state word of a body: w is the words of the held fields below 16, which stand behind it

module _ (b : List ℕ) (l : length b ≡ page_body_words (held_of b)) where
  pub state_absent : (held_of b / 2 ^ 16 % 2 ≡ 1 → ⊥) → true ≡ state_good_in b
  unfolding state_good_in
  state_absent h = rw (ne_eqb (held_of b / 2 ^ 16 % 2) 1 h)

  module _ (w : ℕ) (f : w ≡ sizes_of (bits_of 31 (held_of b % 2 ^ 16))) (h : held_of b / 2 ^ 16 % 2 ≡ 1) where
    behind : w ≡ sizes_of (bits_of 16 (held_of b))
    behind =
        f ∙ ap sizes_of
        (bits_trim 16 31 (held_of b % 2 ^ 16) (omega arith) (mod-lt (held_of b) (omega arith)) ∙ bits_mod 16 (held_of b))

    state_last : length b ≡ head_words + placed 31 (held_of b) 16 + 1 + w
    unfolding page_body_words field_size
    state_last = omega (arith, l, behind, placed_split 31 (held_of b) 16 (omega arith) (eq-eqb _ 1 h))

    pub state_there : w ≤ length b - 1
    state_there = omega (arith, state_last)

    pub state_inside : length b - 1 - w < length b
    state_inside = omega (arith, state_last)

    pub state_answer : (r : Bool) → r ≡ state_good (get_or b (length b - 1 - w) 0) → r ≡ state_good_in b
    unfolding state_good_in
    state_answer r g =
        let place : length b - 1 - w ≡ head_words + placed 31 (held_of b) 16 = omega (arith, state_last) in
        g ∙ ap (λ (k : ℕ). state_good (get_or b k 0)) place ∙ rw (eq-eqb (held_of b / 2 ^ 16 % 2) 1 h)

-- ---- the page: k is the answer to its contents, l that to its list, and n is S

module _ (p : List ℕ) (k : Bool) (c : k ≡ contents_good p) where
  pub page_contents_ill : not k ≡ true → false ≡ page_ok p
  unfolding page_ok
  page_contents_ill i = rw (← c, not-true k i)

  module _ (i : not k ≡ false) where
    pub contents_passed : contents_good p ≡ true
    contents_passed = sym c ∙ not-false k i

    module _ (n : ℕ) (e : n ≡ bodies_in p) where
      pub page_few : n ≤ 32
      page_few = omega (arith, (contents_of p contents_passed).few)

      module _ (l : Bool) (f : l ≡ list_good n (identifier_at p)) where
        pub page_list_ill : not l ≡ true → false ≡ page_ok p
        unfolding page_ok
        page_list_ill j = rw (contents_passed, ← e, ← f, not-true l j)

        pub page_records : (b : Bool) → not l ≡ false → b ≡ all n (record_good_in p) → b ≡ page_ok p
        unfolding page_ok
        page_records b j r = rw (contents_passed, ← e, ← f, not-false l j) r
