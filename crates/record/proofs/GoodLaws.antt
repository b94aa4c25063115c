-- When a record is good. The idea: the tests of specs/Good.antt say what `Good` says in facts (`good_of`, `of_good`); a count and the fields of an accepted
-- packet keep each of these facts, so a good record stays good.
use Rattle.words.proofs.Kit.{◌≡◌, refl, sym, ap, ◌∙◌, Bool, true, false, not, ⊎_elim, List, [], ◌∷◌, ℕ, zero, suc, ◌+◌, ◌-◌, ◌*◌, ◌/◌, ◌%◌, ◌^◌, ◌≤◌, ◌<◌}
use Rattle.words.proofs.Kit.{arith, eq-eqb, ne_eqb, le-leb, lt-leb, eqb-true, not-true, not-false, eqb, length, take, drop, get_or}
use Rattle.std.proofs.Common.{replicate, lt_of_le_of_lt, add-zero, add_assoc, add-suc, ext_get_or, leb-true}
use native.Mathlib.Nat.{zero-div}
use lib.Bits.{bit_and, and_le_r, or_lt}
use lib.ListN.{length-replicate}
use Rattle.words.specs.Tests.{pick, both, among}
use Rattle.words.specs.Word.{has}
use Rattle.words.specs.Part.{part}
use Rattle.words.specs.All.{all}
use Rattle.words.specs.Outcome.{accepted}
use Rattle.words.proofs.Cases.{le_or_lt, true_or_false, same_or_not, both_left, both_right, both_true, both_yes, both_no, both_assoc, neither, pick_true}
use Rattle.words.proofs.Cases.{true_is_false, same_test}
use Rattle.words.proofs.AllLaws.{all_none, all_more, all_end, all_fails, all_at, all_intro, all_same, all_both, all_only}
use Rattle.words.proofs.PartLaws.{seen, get_d_part, part_part, part_length, part_whole}
use Rattle.fields.specs.Sizes.{field_size}
use Rattle.fields.specs.Rules.{rule_of}
use Rattle.fields.specs.inner.Limits.{first_ok, more_ok}
use Rattle.fields.proofs.RuleLaws.{rule_broken_lem, rule_only, unruled_kept, unruled_low, rule_more}
use Rattle.fields.proofs.SizeLaws.{size_some}
use Rattle.fields.specs.Layout.{indicator_of, field_of, context_of}
use Rattle.fields.proofs.BodyLaws.{context_fits, field_rule}
use Rattle.record.specs.Held.{slotted, slot_at, held_mask, holds}
use Rattle.record.specs.State.{state_after, state_good}
use Rattle.record.specs.Layout.{head_words, slot_words, record_words, held_of, count_at, count_words, seen_of, missing_of, last_of, choice_of}
use Rattle.record.specs.Layout.{slot_in, slots_of, slot_of}
use Rattle.record.specs.Counts.{counted_of, count_record}
use Rattle.record.specs.After.{slot_after, held_after, hold_record}
use Rattle.record.specs.Good.{zeros, count_good, count_good_at, held_good, held_rule, slot_good, choice_good, record_good, GoodCount, Good}
use Rattle.record.specs.inner.Head.{head_good}
use Rattle.record.specs.inner.Between.{good_between}
use Rattle.record.proofs.SlotLaws.{slotted_not, slotted_low, slotted_high, slotted_all, held_small}
use Rattle.record.proofs.StateLaws.{state_ruled, state_none, state_stays_good}
use Rattle.record.proofs.CopyLaws.{size_slotted, size_eleven}
use Rattle.record.proofs.HoldLaws.{slot_inside, within_bits, within_mask, Along, along_start, along_slotted, along_fits, along_next}
use Rattle.record.proofs.AfterLaws.{hold_slot, hold_held, hold_choice, hold_count, held_bit, count_count, count_other, count_slot, count_held}
use Rattle.record.proofs.AfterLaws.{count_choice}

-- ---- the words of a count, where a program reads them

count_word : (k i : ℕ) (r : List ℕ) → i < 3 → get_or (count_words k r) i 0 ≡ get_or r (count_at k + i) 0
unfolding count_words
count_word k i r h = get_d_part (count_at k) 3 i r h

pub counts_at : (r : List ℕ) (k : ℕ) → count_good_at r k ≡ count_good (get_or r (count_at k) 0) (get_or r (count_at k + 1) 0) (get_or r (count_at k + 2) 0)
unfolding count_good_at
counts_at r k = rw (count_word k 0 r (omega arith), count_word k 1 r (omega arith), count_word k 2 r (omega arith), add-zero (count_at k))

pub last_at : (r : List ℕ) → last_of (count_words 2 r) ≡ get_or r 10 0
last_at r = count_word 2 2 r (omega arith)

-- ---- a loop that tests f at each number below n: those below i pass

pub record Passing (n : ℕ) (f : ℕ → Bool) (i : ℕ) : Type 0 where
  pub most : i ≤ n
  pub before : all i f ≡ true

pub passing_start : (n : ℕ) (f : ℕ → Bool) → Passing n f 0
passing_start n f = record { most = omega arith; before = all_none f }

module _ {n i : ℕ} {f : ℕ → Bool} (p : Passing n f i) where
  pub passing_end : n ≤ i → true ≡ all n f
  passing_end h = sym (all_end f n i (omega (arith, p.most)) p.before)

  module _ (h : i < n) (t : Bool) (e : t ≡ f i) where
    passing_fails : not t ≡ true → false ≡ all n f
    passing_fails o = sym (all_fails f n i h (sym e ∙ not-true t o))

    passing_turn : not t ≡ false → Passing n f (i + 1)
    passing_turn o = record { most = omega arith; before = all_more f i p.before (sym e ∙ not-false t o) }

-- the counts of a record, each where it begins
module _ (r : List ℕ) (k : ℕ) (p : Passing 4 (count_good_at r) k) (h : k < 4) (at : ℕ) (e : at ≡ count_at k) (t : Bool)
    (c : t ≡ count_good (get_or r at 0) (get_or r (at + 1) 0) (get_or r (at + 2) 0)) where
  count_tested : t ≡ count_good_at r k
  count_tested = c ∙ rw e (sym (counts_at r k))

  pub counts_fail : not t ≡ true → false ≡ all 4 (count_good_at r)
  counts_fail o = passing_fails p h t count_tested o

  pub counts_turn : not t ≡ false → Passing 4 (count_good_at r) (k + 1)
  counts_turn o = passing_turn p h t count_tested o

-- ---- a choice

pub choice_made : (c : ℕ) → c ≤ 1 → choice_good c ≡ true
unfolding choice_good
choice_made c h =
    ⊎_elim (λ (e : c ≡ 0). rw (eq-eqb c 0 e)) (λ (n : c ≡ 0 → ⊥). rw (ne_eqb c 0 n, eq-eqb c 1 (omega arith))) (same_or_not c 0)

pub choice_over : (c : ℕ) → 1 < c → choice_good c ≡ false
unfolding choice_good
choice_over c h = rw (ne_eqb c 0 (λ e. omega arith), ne_eqb c 1 (λ e. omega arith))

pub choice_most : (c : ℕ) → choice_good c ≡ true → c ≤ 1
choice_most c e = ⊎_elim (λ h. h) (λ (h : 1 < c). absurd (true_is_false (sym e ∙ choice_over c h))) (le_or_lt c 1)

-- ---- the words before the slots, as a program tests them

pub head_chosen : (r : List ℕ) → 1 < choice_of r → false ≡ head_good r
unfolding head_good
head_chosen r h =
    rw (choice_over (choice_of r) h, both_no (all 4 (count_good_at r))) (sym (both_no (held_good (held_of r) (last_of (count_words 2 r)))))

-- the held indicator, by the count of type 4
module _ (r : List ℕ) (at : ℕ) (e : at ≡ count_at 2) (t : Bool) (h : t ≡ held_good (held_of r) (get_or r (at + 2) 0)) where
  held_tested : t ≡ held_good (held_of r) (last_of (count_words 2 r))
  held_tested = h ∙ rw (e, last_at r)

  pub head_ill : not t ≡ true → false ≡ head_good r
  unfolding head_good
  head_ill o = rw (← held_tested, not-true t o)

  pub head_counts : (s : Bool) → not t ≡ false → choice_of r ≤ 1 → s ≡ all 4 (count_good_at r) → s ≡ head_good r
  unfolding head_good
  head_counts s o c f = rw (← held_tested, not-false t o, choice_made (choice_of r) c) (f ∙ sym (both_yes (all 4 (count_good_at r))))

-- ---- the slot of a bit, as a program tests it: it stands from `at` on in the record and has n words

pub slot_length : (b : ℕ) (r : List ℕ) → length r ≡ record_words → slotted b ≡ true → length (slot_of b r) ≡ field_size b
unfolding slot_of slot_in slots_of
slot_length b r l o =
    let m : length (part head_words slot_words r) ≡ slot_words = part_length head_words slot_words r (omega arith) in
    part_length (slot_at b) (field_size b) (part head_words slot_words r) (omega (arith, slot_inside b o))

module _ (r : List ℕ) (b at n : ℕ) (l : length r ≡ record_words) (o : slotted b ≡ true) (ea : at ≡ head_words + slot_at b) (en : n ≡ field_size b) where
  pub slot_end : at + n ≤ length r
  slot_end = omega (arith, slot_inside b o)

  pub slot_fits : at + n < 2 ^ 64
  slot_fits = omega (arith, slot_end)

  pub slot_word : at < length r
  slot_word = omega (arith, slot_end, size_some b (slotted_low b o) (slotted_high b o))

  pub slot_bytes : at * 4 < 2 ^ 64
  slot_bytes = omega (arith, slot_end)

  abbrev there : List ℕ
  there = take (at + n - at) (drop at r)

  slot_seen : there ≡ slot_of b r
  unfolding slot_of slot_in slots_of
  slot_seen = seen at (at + n) n r refl ∙ rw (ea, en) (sym (part_part (slot_at b) (field_size b) head_words slot_words r (slot_inside b o)))

  -- the slot has a word
  pub slot_there : 0 < length (take (at + n - at) (drop at r))
  slot_there = omega (arith, ap length slot_seen, slot_length b r l o, size_some b (slotted_low b o) (slotted_high b o))

  -- and 1, 2, 11 or 13 of them
  pub slot_few : among (length (take (at + n - at) (drop at r))) (1 ∷ 2 ∷ 11 ∷ 13 ∷ []) ≡ true
  slot_few = size_slotted b _ o (ap length slot_seen ∙ slot_length b r l o)

  -- it is held, or not
  module _ (t : Bool) where
    pub slot_ruled_lem : held_of r / 2 ^ b % 2 ≡ 1 → t ≡ held_rule b (take (at + n - at) (drop at r)) → t ≡ slot_good r b
    unfolding slot_good
    slot_ruled_lem h e = rw (o, eq-eqb (held_of r / 2 ^ b % 2) 1 h) (e ∙ ap (held_rule b) slot_seen)

    pub slot_zeroed : (held_of r / 2 ^ b % 2 ≡ 1 → ⊥) → t ≡ zeros (take (at + n - at) (drop at r)) → t ≡ slot_good r b
    unfolding slot_good
    slot_zeroed h e = rw (o, ne_eqb (held_of r / 2 ^ b % 2) 1 h) (e ∙ ap zeros slot_seen)

-- ---- the rule of a held field, as a program asks it: `below` is the answer to whether the first word is below its limit

module _ (b : ℕ) (ws : List ℕ) (below : Bool) (f : below ≡ first_ok b (get_or ws 0 0)) (h : get_or ws 0 0 < 2 ^ 32) where
  pub held_broken : below ≡ false → false ≡ held_rule b ws
  unfolding held_rule
  held_broken over = rw (← (rule_broken_lem b ws below f h over))

  pub held_only : 17 < b → below ≡ held_rule b ws
  unfolding held_rule
  held_only g = rule_only b ws below f h g ∙ rw (ne_eqb b 16 (λ e. omega arith)) (sym (both_yes (rule_of b ws)))

  pub held_more : below ≡ true → (b ≡ 16 → ⊥) → (v : ℕ) (more : Bool) → v ≡ get_or ws 1 0 → more ≡ more_ok b (get_or ws 0 0) v → more ≡ held_rule b ws
  unfolding held_rule
  held_more under n v more e m = rule_more b ws below f h under v more e m ∙ rw (ne_eqb b 16 n) (sym (both_yes (rule_of b ws)))

-- of a state word nothing else is asked than that it can be held
pub held_state : (b : ℕ) (ws : List ℕ) (t : Bool) → b ≡ 16 → t ≡ state_good (get_or ws 0 0) → t ≡ held_rule b ws
unfolding held_rule
held_state b ws t e f =
    f ∙ rw (e) (sym (ruled (state_good (get_or ws 0 0)) refl))
  where
    ruled : (s : Bool) → state_good (get_or ws 0 0) ≡ s → both (rule_of 16 ws) s ≡ s
    ruled true y = both_true _ _ (state_ruled (get_or ws 0 0) y ws refl) refl
    ruled false y = both_no (rule_of 16 ws)

-- ---- the slot of a bit above 17, whose rule is the limit of its first word, and of one from 14 down, which has none

module _ (r : List ℕ) (b at n : ℕ) (l : length r ≡ record_words) (o : slotted b ≡ true) (ea : at ≡ head_words + slot_at b) (en : n ≡ field_size b)
    (held : held_of r / 2 ^ b % 2 ≡ 1) where
  first_there : get_or (slot_of b r) 0 0 ≡ get_or r at 0
  unfolding slot_of slot_in slots_of
  first_there =
      let some : 0 < field_size b = size_some b (slotted_low b o) (slotted_high b o) in
      get_d_part (slot_at b) (field_size b) 0 (part head_words slot_words r) some
      ∙ get_d_part head_words slot_words (slot_at b + 0) r (omega (arith, slot_inside b o)) ∙ ap (λ (i : ℕ). get_or r i 0) (omega arith)

  pub slot_limited : 17 < b → (t : Bool) → (t ≡ first_ok b (get_or r at 0)) × (get_or r at 0 < 2 ^ 32) → t ≡ slot_good r b
  unfolding slot_good
  slot_limited g t e =
      rw (o, eq-eqb (held_of r / 2 ^ b % 2) 1 held)
      (held_only b (slot_of b r) t (e.0 ∙ ap (first_ok b) (sym first_there)) (rw first_there e.1) g)

  pub slot_free : b ≤ 14 → true ≡ slot_good r b
  unfolding slot_good held_rule
  slot_free g =
      let obeys : true ≡ rule_of b (slot_of b r) = unruled_kept b (slot_of b r) false (sym (unruled_low b (slotted_low b o) g)) refl in
      rw (o, eq-eqb (held_of r / 2 ^ b % 2) 1 held, ← obeys, ne_eqb b 16 (λ e. omega arith))

-- ---- the slots, as a program tests them from bit `first` down to the one above `past`: those of the bits above b are good

pub record Testing (r : List ℕ) (first past b slot : ℕ) : Type 0 where
  pub along : Along first past b slot
  pub good : (x : ℕ) → b < x → x ≤ first → slot_good r x ≡ true

pub testing_start : (r : List ℕ) (first past slot : ℕ) → 9 ≤ past → past ≤ first → first ≤ 30 → slot ≡ slot_at first → Testing r first past first slot
testing_start r first past slot b l t e = record { along = along_start first past slot b l t e; good = λ x g k. absurd (omega arith) }

module _ (r : List ℕ) (first past b slot : ℕ) (p : Testing r first past b slot) where
  pub testing_end : b ≤ past → true ≡ good_between first past r
  unfolding good_between
  testing_end h =
      sym (all_intro _ (suc first)
      (λ x l.
      ⊎_elim (λ (g : x ≤ past). rw (le-leb x past g)) (λ (g : past < x). rw (lt-leb x past g) (p.good x (omega arith) (omega arith))) (le_or_lt x past)))

  module _ (h : past < b) where
    pub testing_slotted : slotted b ≡ true
    testing_slotted = along_slotted p.along h

    pub testing_here : head_words + slot ≡ head_words + slot_at b
    testing_here = ap (λ (n : ℕ). head_words + n) p.along.here

    pub testing_head : head_words + slot < 2 ^ 64
    testing_head = omega (arith, p.along.here, slot_inside b testing_slotted)

    module _ (n : ℕ) (en : n ≡ field_size b) where
      pub testing_fits : slot + n < 2 ^ 64
      testing_fits = along_fits p.along h n en

      module _ (t : Bool) (e : t ≡ slot_good r b) where
        pub testing_turn : not t ≡ false → Testing r first past (b - 1) (slot + n)
        testing_turn o = record {
          along = along_next p.along h n en;
          good = λ x g l.
              ⊎_elim (λ (i : x ≡ b). rw i (sym e ∙ not-false t o)) (λ (d : x ≡ b → ⊥). p.good x (omega arith) l) (same_or_not x b);
        }

    pub testing_fails : (t : Bool) → t ≡ slot_good r b → not t ≡ true → false ≡ good_between first past r
    unfolding good_between
    testing_fails t e o = sym (all_fails _ (suc first) b (omega (arith, p.along.high)) (rw (lt-leb b past h) (sym e ∙ not-true t o)))

-- the slots of the parts, and all of them
between_at : (r : List ℕ) (first past b : ℕ) → good_between first past r ≡ true → past < b → b ≤ first → slot_good r b ≡ true
unfolding good_between
between_at r first past b e h g = rw (lt-leb b past h) at (all_at _ (suc first) b (omega arith) e)

between_of : (r : List ℕ) (first past : ℕ) → first < 31 → all 31 (slot_good r) ≡ true → good_between first past r ≡ true
unfolding good_between
between_of r first past h e =
    all_intro _ (suc first)
    (λ b l.
    ⊎_elim (λ (g : b ≤ past). rw (le-leb b past g)) (λ (g : past < b). rw (lt-leb b past g) (all_at (slot_good r) 31 b (omega arith) e)) (le_or_lt b past))

-- a slot that is not good is not good among all
between_fails : (r : List ℕ) (first past : ℕ) (t : Bool) → first < 31 → t ≡ good_between first past r → not t ≡ true → false ≡ all 31 (slot_good r)
between_fails r first past t h e o =
    ⊎_elim (λ (y : all 31 (slot_good r) ≡ true). absurd (true_is_false (sym (between_of r first past h y) ∙ sym e ∙ not-true t o))) (λ n. sym n)
    (true_or_false (all 31 (slot_good r)))

-- as a program asks them, one part after the other: h, m, l and u are its answers
module _ (r : List ℕ) (h : Bool) (eh : h ≡ good_between 30 21 r) where
  pub high_ill : not h ≡ true → false ≡ all 31 (slot_good r)
  high_ill = between_fails r 30 21 h (omega arith) eh

  module _ (oh : not h ≡ false) (m : Bool) (em : m ≡ good_between 21 17 r) where
    pub next_ill : not m ≡ true → false ≡ all 31 (slot_good r)
    next_ill = between_fails r 21 17 m (omega arith) em

    module _ (om : not m ≡ false) (l : Bool) (el : l ≡ good_between 17 14 r) where
      pub middle_ill : not l ≡ true → false ≡ all 31 (slot_good r)
      middle_ill = between_fails r 17 14 l (omega arith) el

      each_good : (b : ℕ) → b < 31 → not l ≡ false → good_between 14 9 r ≡ true → slot_good r b ≡ true
      unfolding slot_good
      each_good b g ol y =
          ⊎_elim (λ (a : b ≤ 21).
          ⊎_elim (λ (c : b ≤ 17).
          ⊎_elim (λ (d : b ≤ 14).
          ⊎_elim (λ (k : b ≤ 9). rw (slotted_not b (omega arith))) (λ (k : 9 < b). between_at r 14 9 b y k d) (le_or_lt b 9))
          (λ (d : 14 < b). between_at r 17 14 b (sym el ∙ not-false l ol) d c) (le_or_lt b 14))
          (λ (c : 17 < b). between_at r 21 17 b (sym em ∙ not-false m om) c a) (le_or_lt b 17))
          (λ (a : 21 < b). between_at r 30 21 b (sym eh ∙ not-false h oh) a (omega arith)) (le_or_lt b 21)

      pub good_parts : (u : Bool) → not l ≡ false → u ≡ good_between 14 9 r → u ≡ all 31 (slot_good r)
      good_parts u ol eu =
          same_test u (all 31 (slot_good r)) (λ y. all_intro (slot_good r) 31 (λ b g. each_good b g ol (sym eu ∙ y)))
          (λ y. eu ∙ between_of r 14 9 (omega arith) y)

-- ---- the slots, where the state word is asked apart

-- the slot of bit b is by the field's rule alone
abbrev pub slot_ruled : List ℕ → ℕ → Bool
slot_ruled r b = pick (slotted b) (pick (has (held_of r) b) (rule_of b (slot_of b r)) (zeros (slot_of b r))) true

module _ (r : List ℕ) where
  abbrev stated : ℕ → Bool
  stated b = pick (both (slotted b) (both (has (held_of r) b) (eqb b 16))) (state_good (get_or (slot_of b r) 0 0)) true

  slot_both : (b : ℕ) → slot_good r b ≡ both (slot_ruled r b) (stated b)
  unfolding slot_good held_rule
  slot_both b =
      ⊎_elim
      (λ (o : slotted b ≡ true).
      ⊎_elim (λ (h : has (held_of r) b ≡ true). rw (o, h)) (λ (h : has (held_of r) b ≡ false). rw (o, h) (sym (both_yes (zeros (slot_of b r)))))
      (true_or_false (has (held_of r) b)))
      (λ (o : slotted b ≡ false). rw o) (true_or_false (slotted b))

  pub slots_ruled : all 31 (slot_good r) ≡ both (all 31 (slot_ruled r)) (pick (has (held_of r) 16) (state_good (get_or (slot_of 16 r) 0 0)) true)
  slots_ruled =
      all_same (slot_good r) _ 31 (λ b h. slot_both b) ∙ all_both (slot_ruled r) stated 31
      ∙ ap (both (all 31 (slot_ruled r)))
      (all_only stated 31 16 (omega arith) (λ i n. rw (ne_eqb i 16 n, both_no (has (held_of r) i), both_no (slotted i)))
      ∙ rw (slotted_all 16 (omega arith) (omega arith), both_yes (has (held_of r) 16)))

-- ---- words that are zero, piece by piece

all_join : (f : ℕ → Bool) (n m : ℕ) → both (all n f) (all m (λ i. f (n + i))) ≡ all (n + m) f
unfolding all
all_join f n zero = both_yes (all n f) ∙ ap (λ (k : ℕ). all k f) (sym (add-zero n))
all_join f n (suc m) =
    sym (both_assoc (all n f) (all m (λ i. f (n + i))) (f (n + m)))
    ∙ ap (λ (t : Bool). both t (f (n + m))) (all_join f n m) ∙ ap (λ (k : ℕ). all k f) (sym (add-suc n m))

zeros_part : (a n : ℕ) (ws : List ℕ) → a + n ≤ length ws → zeros (part a n ws) ≡ all n (λ i. eqb (get_or ws (a + i) 0) 0)
unfolding zeros
zeros_part a n ws h = rw (part_length a n ws h) (all_same _ _ n (λ i g. ap (λ (x : ℕ). eqb x 0) (get_d_part a n i ws g)))

-- one word
zeros_one : (a : ℕ) (ws : List ℕ) → a + 1 ≤ length ws → eqb (get_or ws a 0) 0 ≡ zeros (part a 1 ws)
unfolding all
zeros_one a ws h = ap (λ (i : ℕ). eqb (get_or ws i 0) 0) (sym (add-zero a)) ∙ sym (zeros_part a 1 ws h)

-- n words, and m behind them
zeros_then : (n m a : ℕ) (ws : List ℕ) (s t : Bool) → a + (n + m) ≤ length ws → s ≡ zeros (part a n ws) → t ≡ zeros (part (a + n) m ws)
    → both s t ≡ zeros (part a (n + m) ws)
zeros_then n m a ws s t h e f =
    rw (e, f, zeros_part a n ws (omega arith), zeros_part (a + n) m ws (omega arith))
    (ap (both (all n (λ i. eqb (get_or ws (a + i) 0) 0))) (all_same _ _ m (λ i g. ap (λ (k : ℕ). eqb (get_or ws k 0) 0) (add_assoc a n i)))
    ∙ all_join (λ i. eqb (get_or ws (a + i) 0) 0) n m ∙ sym (zeros_part a (n + m) ws h))

-- two words, four and eleven, as a program joins them
module _ (a : ℕ) (ws : List ℕ) (r : Bool) where
  pub zeros_two : a + 2 ≤ length ws → r ≡ both (eqb (get_or ws a 0) 0) (eqb (get_or ws (a + 1) 0) 0) → r ≡ zeros (part a 2 ws)
  zeros_two h e = e ∙ zeros_then 1 1 a ws _ _ h (zeros_one a ws (omega arith)) (zeros_one (a + 1) ws (omega arith))

  pub zeros_four : (s t : Bool) → a + 4 ≤ length ws → s ≡ zeros (part a 2 ws) → t ≡ zeros (part (a + 2) 2 ws) → r ≡ both s t → r ≡ zeros (part a 4 ws)
  zeros_four s t h f g e = e ∙ zeros_then 2 2 a ws s t h f g

pub zeros_eleven : (ws : List ℕ) (four more eight two ten r : Bool) → 11 ≤ length ws → four ≡ zeros (part 0 4 ws) → more ≡ zeros (part 4 4 ws)
    → two ≡ zeros (part 8 2 ws) → eight ≡ both four more → ten ≡ both eight two → r ≡ both ten (eqb (get_or ws 10 0) 0) → r ≡ zeros (part 0 11 ws)
zeros_eleven ws four more eight two ten r h f m t e g i =
    let eighth = e ∙ zeros_then 4 4 0 ws four more (omega arith) f m in
    let tenth = g ∙ zeros_then 8 2 0 ws eight two (omega arith) eighth t in
    i ∙ zeros_then 10 1 0 ws ten _ h tenth (zeros_one 10 ws h)

-- all words of a slot, of 1, 2, 11 or 13
module _ (ws : List ℕ) (t : Bool) where
  zeros_all : (n : ℕ) → length ws ≡ n → t ≡ zeros (part 0 n ws) → t ≡ zeros ws
  zeros_all n l e = e ∙ ap zeros (rw l at (part_whole ws))

  pub one_zero : length ws ≡ 1 → t ≡ eqb (get_or ws 0 0) 0 → t ≡ zeros ws
  one_zero l e = zeros_all 1 l (e ∙ zeros_one 0 ws (omega arith))

  pub pair_zero : length ws ≡ 2 → t ≡ zeros (part 0 2 ws) → t ≡ zeros ws
  pair_zero l e = zeros_all 2 l e

  pub longer_zero : (eleven two : Bool) → length ws ≡ 13 → eleven ≡ zeros (part 0 11 ws) → two ≡ zeros (part 11 2 ws) → t ≡ both eleven two → t ≡ zeros ws
  longer_zero eleven two l e f i = zeros_all 13 l (i ∙ zeros_then 11 2 0 ws eleven two (omega arith) e f)

  pub long_zero : among (length ws) (1 ∷ 2 ∷ 11 ∷ 13 ∷ []) ≡ true → (length ws ≡ 1 → ⊥) → (length ws ≡ 2 → ⊥) → (length ws ≡ 13 → ⊥)
      → t ≡ zeros (part 0 11 ws) → t ≡ zeros ws
  long_zero a p q r e = zeros_all 11 (size_eleven (length ws) a p q r) e

-- ---- the tests as facts

-- zero words
pub zero_at : (n i : ℕ) → get_or {A = ℕ} (replicate n 0) i 0 ≡ 0
zero_at zero i = refl
zero_at (suc n) zero = refl
zero_at (suc n) (suc i) = zero_at n i

pub zeros_are : (ws : List ℕ) → zeros ws ≡ true → ws ≡ replicate (length ws) 0
unfolding zeros
zeros_are ws e =
    ext_get_or 0 ws (replicate (length ws) 0) (sym (length-replicate (length ws) 0))
    (λ i h. eqb-true (get_or ws i 0) 0 (all_at (λ j. eqb (get_or ws j 0) 0) (length ws) i h e) ∙ sym (zero_at (length ws) i))

pub zeros_good : (n : ℕ) → zeros (replicate n 0) ≡ true
unfolding zeros
zeros_good n = all_intro _ (length (replicate {A = ℕ} n 0)) (λ i h. eq-eqb (get_or (replicate n 0) i 0) 0 (zero_at n i))

-- a count
pub count_facts : (seen missing last : ℕ) → count_good seen missing last ≡ true → GoodCount seen missing last
unfolding count_good
count_facts seen missing last e =
    ⊎_elim
    (λ (z : last ≡ 0).
    let f : both (eqb seen 0) (eqb missing 0) ≡ true = rw (eq-eqb last 0 z) at e in
    let zero_seen = eqb-true seen 0 (both_left (eqb seen 0) (eqb missing 0) f) in
    let zero-missing = eqb-true missing 0 (both_right (eqb seen 0) (eqb missing 0) f) in
    record { unstarted = λ _. (zero_seen, zero-missing); most = omega arith })
    (λ (n : last ≡ 0 → ⊥). record { unstarted = λ z. absurd (n z); most = leb-true last 16 (rw (ne_eqb last 0 n) at e) })
    (same_or_not last 0)

pub facts_count : (seen missing last : ℕ) → GoodCount seen missing last → count_good seen missing last ≡ true
unfolding count_good
facts_count seen missing last g =
    ⊎_elim
    (λ (z : last ≡ 0). rw (eq-eqb last 0 z, eq-eqb seen 0 (g.unstarted z).0, eq-eqb missing 0 (g.unstarted z).1))
    (λ (n : last ≡ 0 → ⊥). rw (ne_eqb last 0 n, le-leb last 16 g.most))
    (same_or_not last 0)

-- the words before the slots, and then the slots: as a program tests a record
pub head_slots : (r : List ℕ) → both (head_good r) (all 31 (slot_good r)) ≡ record_good r
unfolding record_good head_good
head_slots r =
    let held : Bool = held_good (held_of r) (last_of (count_words 2 r)) in
    let counts : Bool = all 4 (count_good_at r) in
    let slots : Bool = all 31 (slot_good r) in
    both_assoc held (both counts (choice_good (choice_of r))) slots ∙ ap (both held) (both_assoc counts (choice_good (choice_of r)) slots)

module _ (r : List ℕ) (head : Bool) (e : head ≡ head_good r) where
  good_tests : both head (all 31 (slot_good r)) ≡ record_good r
  good_tests = rw e (head_slots r)

  pub good_head_ill : head ≡ false → false ≡ record_good r
  good_head_ill h = rw h at good_tests

  pub good_slots : (slots : Bool) → head ≡ true → slots ≡ all 31 (slot_good r) → slots ≡ record_good r
  good_slots slots h f = f ∙ rw h at good_tests

-- a record
pub good_of : (r : List ℕ) → length r ≡ record_words → record_good r ≡ true → Good r
unfolding record_good held_good slot_good count_good_at holds
good_of r l e =
    let held : Bool = held_good (held_of r) (last_of (count_words 2 r)) in
    let counts : Bool = all 4 (count_good_at r) in
    let choice : Bool = choice_good (choice_of r) in
    let slots : Bool = all 31 (slot_good r) in
    let a = both_left held (both counts (both choice slots)) e in
    let o = both_right held (both counts (both choice slots)) e in
    let q = both_right counts (both choice slots) o in
    let w : bit_and (held_of r) held_mask ≡ held_of r = eqb-true _ _ (both_left (eqb (bit_and (held_of r) held_mask) (held_of r)) _ a) in
    let s = both_right (eqb (bit_and (held_of r) held_mask) (held_of r)) _ a in
    let slot : (b : ℕ) → slotted b ≡ true → pick (has (held_of r) b) (held_rule b (slot_of b r)) (zeros (slot_of b r)) ≡ true =
    λ b h. rw h at (all_at (slot_good r) 31 b (slotted_high b h) (both_right choice slots q)) in
    record {
      bits = within_bits held_mask (held_of r) w;
      small = rw w at (lt_of_le_of_lt (and_le_r (held_of r) held_mask) held_small);
      started = λ z. eqb-true (held_of r) 0 (rw (eq-eqb _ 0 z) at s);
      counts = λ k h. count_facts _ _ _ (all_at (count_good_at r) 4 k h (both_left counts (both choice slots) o));
      choice = choice_most (choice_of r) (both_left choice slots q);
      unheld = λ b h n. zeros_are (slot_of b r) (rw n at (slot b h)) ∙ ap (λ (m : ℕ). replicate m 0) (slot_length b r l h);
      obeys = λ b h y. rw y at (slot b h);
    }

pub of_good : (r : List ℕ) → Good r → record_good r ≡ true
unfolding record_good held_good slot_good count_good_at holds
of_good r g =
    both_true _ _
    (both_true _ _ (eq-eqb _ _ (within_mask held_mask (held_of r) g.small g.bits))
    (pick_true (eqb (last_of (count_words 2 r)) 0) (eqb (held_of r) 0) (λ z. eq-eqb (held_of r) 0 (g.started (eqb-true (last_of (count_words 2 r)) 0 z)))))
    (both_true _ _ (all_intro (count_good_at r) 4 (λ k h. facts_count _ _ _ (g.counts k h)))
    (both_true _ _ (choice_made (choice_of r) g.choice) (all_intro (slot_good r) 31 (λ b h. pick_true (slotted b) _ (λ o. slot b o)))))
  where
    slot : (b : ℕ) → slotted b ≡ true → pick (has (held_of r) b) (held_rule b (slot_of b r)) (zeros (slot_of b r)) ≡ true
    slot b o =
        ⊎_elim (λ y. rw y (g.obeys b o y))
        (λ n. ap (λ (t : Bool). pick t (held_rule b (slot_of b r)) (zeros (slot_of b r))) n ∙ ap zeros (g.unheld b o n) ∙ zeros_good (field_size b))
        (true_or_false (has (held_of r) b))

-- ---- a record of zeros but for its identifier and its choice is good

module _ (r : List ℕ) (l : length r ≡ record_words) (c : choice_of r ≤ 1) (z : (i : ℕ) → 1 ≤ i → (i ≡ 14 → ⊥) → get_or r i 0 ≡ 0) where
  blank_held : held_of r ≡ 0
  blank_held = z 1 (omega arith) (λ e. omega arith)

  blank_bit : (b : ℕ) → has (held_of r) b ≡ false
  blank_bit b = ap (λ (n : ℕ). has n b) blank_held ∙ ap (λ (n : ℕ). eqb (n % 2) 1) (zero-div (2 ^ b))

  blank_count : (k i : ℕ) → k < 4 → i < 3 → get_or (count_words k r) i 0 ≡ 0
  blank_count k i g h = count_word k i r h ∙ z (count_at k + i) (omega arith) (λ e. omega arith)

  blank_slot : (b : ℕ) → slotted b ≡ true → slot_of b r ≡ replicate (field_size b) 0
  unfolding slot_of slot_in slots_of
  blank_slot b o =
      let m : length (part (slot_at b) (field_size b) (part head_words slot_words r)) ≡ field_size b = slot_length b r l o in
      ext_get_or 0 _ (replicate (field_size b) 0) (m ∙ sym (length-replicate (field_size b) 0))
      (λ i h.
      get_d_part (slot_at b) (field_size b) i (part head_words slot_words r) (omega arith)
      ∙ get_d_part head_words slot_words (slot_at b + i) r (omega (arith, slot_inside b o))
      ∙ z (head_words + (slot_at b + i)) (omega arith) (λ e. omega arith) ∙ sym (zero_at (field_size b) i))

  pub blank_good : Good r
  blank_good = record {
    bits = λ b e. absurd (true_is_false (sym e ∙ blank_bit b));
    small = omega (arith, blank_held);
    started = λ _. blank_held;
    counts = λ k h. record {
      unstarted = λ _. (blank_count k 0 h (omega arith), blank_count k 1 h (omega arith));
      most = omega (arith, blank_count k 2 h (omega arith));
    };
    choice = c;
    unheld = λ b o e. blank_slot b o;
    obeys = λ b o e. absurd (true_is_false (sym e ∙ blank_bit b));
  }

-- ---- a good record stays good

-- a field of which nothing is carried that is held leaves its slot
slot_stays : (b : ℕ) (carried : Bool) (field slot : List ℕ) → both carried (holds b) ≡ false → slot_after b carried field slot ≡ slot
unfolding slot_after
slot_stays b carried field slot e = rw e

-- a slot that is held is by its rule, also after a packet
rule_after : (b : ℕ) (carried : Bool) (field slot : List ℕ) → (carried ≡ true → rule_of b field ≡ true) → (b ≡ 16 → state_good (get_or slot 0 0) ≡ true)
    → (both carried (holds b) ≡ false → held_rule b slot ≡ true) → held_rule b (slot_after b carried field slot) ≡ true
unfolding slot_after held_rule
rule_after b carried field slot f s g =
    ⊎_elim
    (λ (y : both carried (holds b) ≡ true).
    ⊎_elim
    (λ (e : eqb b 16 ≡ true).
    let new : state_good (state_after (get_or field 0 0) (get_or slot 0 0))
    ≡ true = state_stays_good (get_or field 0 0) (get_or slot 0 0) (s (eqb-true b 16 e)) in
    rw (y, e) (both_true _ _ (ap (λ (n : ℕ). rule_of n (state_after (get_or field 0 0) (get_or slot 0 0) ∷ [])) (eqb-true b 16 e) ∙ state_ruled _ new _ refl)
    new))
    (λ (e : eqb b 16 ≡ false). rw (y, e) (both_true _ _ (f (both_left carried (holds b) y)) refl)) (true_or_false (eqb b 16)))
    (λ (n : both carried (holds b) ≡ false). rw n (g n)) (true_or_false (both carried (holds b)))

-- after a count
module _ (k count : ℕ) (r : List ℕ) (l : length r ≡ record_words) (h : k < 4) (small : count < 16) (g : Good r) where
  counted_last : last_of (counted_of count (count_words k r)) ≡ count + 1
  unfolding counted_of
  counted_last = refl

  counted_good : let after = counted_of count (count_words k r) in GoodCount (seen_of after) (missing_of after) (last_of after)
  counted_good = record { unstarted = λ z. absurd (omega (arith, counted_last)); most = omega (arith, counted_last) }

  -- type 4 has started where it had, or is the one counted
  counted_started : last_of (count_words 2 (count_record k count r)) ≡ 0 → last_of (count_words 2 r) ≡ 0
  counted_started z =
      ⊎_elim
      (λ (e : 2 ≡ k).
      let y : last_of (count_words k (count_record k count r)) ≡ 0 = ap (λ (j : ℕ). last_of (count_words j (count_record k count r))) (sym e) ∙ z in
      absurd (omega (arith, y, counted_last, ap last_of (count_count k count r l h))))
      (λ (n : 2 ≡ k → ⊥). sym (ap last_of (count_other k count r l h 2 (omega arith) n)) ∙ z) (same_or_not 2 k)

  pub count_good_lem : Good (count_record k count r)
  count_good_lem =
      record {
        bits = rw (count_held k count r l h) g.bits;
        small = rw (count_held k count r l h) g.small;
        started = λ z. count_held k count r l h ∙ g.started (counted_started z);
        counts = λ j i.
            ⊎_elim (λ (e : j ≡ k). rw (e, count_count k count r l h) counted_good)
            (λ (n : j ≡ k → ⊥). rw (count_other k count r l h j i n) (g.counts j i)) (same_or_not j k);
        choice = rw (count_choice k count r l h) g.choice;
        unheld = λ b o n. count_slot k count r l h b ∙ g.unheld b o (sym (ap (λ (m : ℕ). has m b) (count_held k count r l h)) ∙ n);
        obeys = λ b o y. ap (held_rule b) (count_slot k count r l h b) ∙ g.obeys b o (sym (ap (λ (m : ℕ). has m b) (count_held k count r l h)) ∙ y);
      }

-- after the fields of an accepted packet are held, type 4 having started
module _ (body r : List ℕ) (l : length r ≡ record_words) (ok : context_of body ≡ accepted tt) (began : last_of (count_words 2 r) ≡ 0 → ⊥) (g : Good r) where
  abbrev ind : ℕ
  ind = indicator_of body

  -- whether bit b is held after it
  abbrev held_then : ℕ → Bool
  held_then b = pick (has (held_of r) b) true (both (has (indicator_of body) b) (holds b))

  bit_after : (b : ℕ) → has (held_of (hold_record body r)) b ≡ held_then b
  bit_after b = ap (λ (m : ℕ). has m b) (hold_held body r l ok) ∙ held_bit (indicator_of body) (held_of r) b

  -- whether its field is carried and held
  abbrev gains : ℕ → Bool
  gains b = both (has (indicator_of body) b) (holds b)

  hold_bits : (b : ℕ) → held_then b ≡ true → holds b ≡ true
  hold_bits b e =
      ⊎_elim (λ y. g.bits b y) (λ n. both_right (has ind b) (holds b) (rw n at e)) (true_or_false (has (held_of r) b))

  -- a bit that is held after it and not gained was held
  was_held : (b : ℕ) → gains b ≡ false → held_then b ≡ true → has (held_of r) b ≡ true
  was_held b c e = ⊎_elim (λ y. y) (λ (n : has (held_of r) b ≡ false). absurd (true_is_false (sym (rw (n, c) at e)))) (true_or_false (has (held_of r) b))

  -- the state word that is held is such a word, and so is the zero that stands for none
  old_state : (b : ℕ) → b ≡ 16 → state_good (get_or (slot_of b r) 0 0) ≡ true
  unfolding held_rule
  old_state b e =
      let o : slotted b ≡ true = slotted_all b (omega arith) (omega arith) in
      ⊎_elim (λ y. rw (eq-eqb b 16 e) at (both_right (rule_of b (slot_of b r)) _ (g.obeys b o y)))
      (λ n. ap (λ (ws : List ℕ). state_good (get_or ws 0 0)) (g.unheld b o n) ∙ ap state_good (zero_at (field_size b) 0) ∙ state_none)
      (true_or_false (has (held_of r) b))

  pub hold_good : Good (hold_record body r)
  unfolding held_after
  hold_good =
      record {
        bits = λ b y. hold_bits b (sym (bit_after b) ∙ y);
        small = rw (hold_held body r l ok) (or_lt 31 (held_of r) (bit_and ind held_mask) g.small (lt_of_le_of_lt (and_le_r ind held_mask) held_small));
        started = λ z. absurd (began (sym (ap last_of (hold_count body r l ok 2 (omega arith))) ∙ z));
        counts = λ k h. rw (hold_count body r l ok k h) (g.counts k h);
        choice = rw (hold_choice body r l ok) g.choice;
        unheld = λ b o n.
            let u = neither (has (held_of r) b) (gains b) (sym (bit_after b) ∙ n) in
            hold_slot body r l ok b o ∙ slot_stays b (has ind b) (field_of b body) (slot_of b r) u.1 ∙ g.unheld b o u.0;
        obeys = λ b o y.
            ap (held_rule b) (hold_slot body r l ok b o)
            ∙ rule_after b (has ind b) (field_of b body) (slot_of b r)
            (λ c. field_rule b body (slotted_high b o) c (context_fits body ok) (slotted_low b o)) (old_state b)
            (λ c. g.obeys b o (was_held b c (sym (bit_after b) ∙ y)));
      }
