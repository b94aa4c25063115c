-- Fields put into their slots. The idea: a loop goes along the bits of a part, with the slot's place (`Along`) and the field's place; the part of the bits that
-- it has passed is filled (`Holding`), and parts one below the other are one part together (`filled_then`). The slot of a bit lies apart from every other
-- (`placed_apart`), so a copy into it changes that slot alone.
use Rattle.words.proofs.Kit.{◌≡◌, refl, sym, ap, ◌∙◌, true, false, ⊎_elim, List, [], ◌∷◌, ℕ, suc, ◌+◌, ◌-◌, ◌/◌, ◌%◌, ◌^◌, ◌≤◌, ◌<◌, arith}
use Rattle.words.proofs.Kit.{eq-eqb, ne_eqb, length}
use Rattle.std.proofs.Common.{lt_of_le_of_lt}
use lib.Bits.{bit_and, and_le_l, and_le_r}
use Rattle.words.specs.Tests.{pick, among}
use Rattle.words.specs.Word.{has}
use Rattle.words.specs.Part.{part, put}
use Rattle.words.proofs.Cases.{le_or_lt, same_or_not, true_or_false, both_right}
use Rattle.words.proofs.BitLaws.{has_and, word_same}
use Rattle.words.proofs.PartLaws.{part_length, put_length, part_put, part_put_before, part_put_after}
use Rattle.fields.specs.Sizes.{field_size}
use Rattle.record.specs.Held.{slot_mask, slotted, slot_bits, slot_at, held_mask, holds}
use Rattle.record.specs.Layout.{slot_words, slot_in}
use Rattle.record.specs.After.{refilled, Inside}
use Rattle.record.specs.inner.Filled.{InsideBetween, Filled}
use Rattle.record.proofs.CopyLaws.{size_slotted}
use Rattle.record.proofs.SlotLaws.{placed, placed_first, placed_between, placed_past, placed_over, placed_inside, placed_apart, in_order_same}
use Rattle.record.proofs.SlotLaws.{in_order_parts, slotted_low, slotted_high, slotted_all, slots_whole, slot_next, held_small, held_slotted}

-- ---- bits of a mask alone, and of fields that have a slot

pub within_bits : (mask bits : ℕ) → bit_and bits mask ≡ bits → (b : ℕ) → has bits b ≡ true → has mask b ≡ true
within_bits mask bits within b e = both_right (has bits b) (has mask b) (sym (has_and bits mask b) ∙ ap (λ (n : ℕ). has n b) within ∙ e)

pub within_mask : (mask bits : ℕ) → bits < 2 ^ 31 → ((b : ℕ) → has bits b ≡ true → has mask b ≡ true) → bit_and bits mask ≡ bits
within_mask mask bits h e =
    word_same 31 (bit_and bits mask) bits (lt_of_le_of_lt (and_le_l bits mask) h) h
    (λ b l. has_and bits mask b ∙ ⊎_elim (λ t. rw t (e b t)) (λ t. rw t) (true_or_false (has bits b)))

-- bits of held fields are such
pub held_within : (held : ℕ) → bit_and held held_mask ≡ held → bit_and held slot_mask ≡ held
unfolding holds slotted
held_within held w =
    within_mask slot_mask held (rw w at (lt_of_le_of_lt (and_le_r held held_mask) held_small)) (λ b e. held_slotted b (within_bits held_mask held w b e))

module _ (bits : ℕ) (within : bit_and bits slot_mask ≡ bits) where
  pub within_slotted : (b : ℕ) → has bits b ≡ true → slotted b ≡ true
  unfolding slotted
  within_slotted = within_bits slot_mask bits within

  -- none below bit 10 is set
  pub within_unset : (b : ℕ) → b < 10 → has bits b ≡ false
  within_unset b h =
      ⊎_elim (λ (y : has bits b ≡ true). absurd (omega (arith, slotted_low b (within_slotted b y)))) (λ n. n) (true_or_false (has bits b))

-- ---- slots

-- a slot lies among the slots, and apart from the others
pub slot_inside : (b : ℕ) → slotted b ≡ true → slot_at b + field_size b ≤ slot_words
unfolding slot_at slot_bits slotted
slot_inside b e = rw slots_whole at (placed_inside 31 slot_mask b (slotted_high b e) e)

pub slot_sized : (b : ℕ) (slots : List ℕ) → length slots ≡ slot_words → slotted b ≡ true → length (slot_in b slots) ≡ field_size b
unfolding slot_in
slot_sized b slots l o = part_length (slot_at b) (field_size b) slots (omega (arith, slot_inside b o))

slots_apart : (b x : ℕ) → b < x → slotted b ≡ true → slotted x ≡ true → slot_at x + field_size x ≤ slot_at b
unfolding slot_at slot_bits slotted
slots_apart b x h e f = placed_apart 31 slot_mask b x h (slotted_high x f) e f

module _ (b : ℕ) (ws slots : List ℕ) (l : length slots ≡ slot_words) (e : slotted b ≡ true) (m : length ws ≡ field_size b) where
  room : slot_at b + field_size b ≤ length slots
  room = omega (arith, slot_inside b e)

  pub slot_put : slot_in b (put (slot_at b) (field_size b) ws slots) ≡ ws
  unfolding slot_in
  slot_put = part_put (slot_at b) (field_size b) ws slots room m

  pub slot_put_other : (x : ℕ) → slotted x ≡ true → (x ≡ b → ⊥) → slot_in x (put (slot_at b) (field_size b) ws slots) ≡ slot_in x slots
  unfolding slot_in
  slot_put_other x f n =
      ⊎_elim (λ (g : x ≤ b). part_put_after (slot_at b) (field_size b) ws slots room m (slot_at x) (field_size x) (slots_apart x b (omega arith) f e))
      (λ (g : b < x). part_put_before (slot_at b) (field_size b) ws slots room m (slot_at x) (field_size x) (slots_apart b x g e f)) (le_or_lt x b)

-- ---- a loop along the slots

-- A loop goes over bits that have a slot, from `first` down to the one above `past`. It stands at `bit`, whose slot begins at `slot`.
pub record Along (first past bit slot : ℕ) : Type 0 where
  pub bottom : 9 ≤ past
  pub top : first ≤ 30
  pub low : past ≤ bit
  pub high : bit ≤ first
  pub here : slot ≡ slot_at bit

pub along_start : (first past slot : ℕ) → 9 ≤ past → past ≤ first → first ≤ 30 → slot ≡ slot_at first → Along first past first slot
along_start first past slot b l t e = record {
  bottom = b;
  top = t;
  low = l;
  high = omega arith;
  here = e;
}

pub along_end : {first past bit slot : ℕ} → Along first past bit slot → bit ≤ past → bit ≡ past
along_end p done = omega (arith, p.low)

-- a turn: n is the size of this bit's field
module _ {first past bit slot : ℕ} (p : Along first past bit slot) (more : past < bit) where
  pub along_slotted : slotted bit ≡ true
  along_slotted = slotted_all bit (omega (arith, p.bottom)) (omega (arith, p.high, p.top))

  module _ (n : ℕ) (en : n ≡ field_size bit) where
    pub along_slot : slot + n ≤ slot_words
    along_slot = omega (arith, p.here, slot_inside bit along_slotted)

    pub along_fits : slot + n < 2 ^ 64
    along_fits = omega (arith, along_slot)

    pub along_few : among n (1 ∷ 2 ∷ 11 ∷ 13 ∷ []) ≡ true
    along_few = size_slotted bit n along_slotted en

    pub along_next : Along first past (bit - 1) (slot + n)
    along_next = record {
      bottom = p.bottom;
      top = p.top;
      low = omega arith;
      high = omega (arith, p.high);
      here = slot_next bit slot n along_slotted p.here en;
    }

-- ---- fields put into their slots, by parts of the bits

-- the field of bit b, where the fields of these bits from `first` down stand from a place of the words on
abbrev field_in : ℕ → ℕ → ℕ → List ℕ → ℕ → List ℕ
field_in first bits at ws b = part (at + placed (suc first) bits b) (field_size b) ws

-- all bits
pub inside_all : (bits at : ℕ) (ws : List ℕ) → Inside bits at ws → InsideBetween 30 9 bits at ws
inside_all bits at ws i b l h = i b

-- of a part, its upper part lies inside, and its lower one from the place past the upper one's fields on
module _ (first past bits at : ℕ) (ws : List ℕ) (i : InsideBetween first past bits at ws) (middle : ℕ) (h : past ≤ middle) where
  pub inside_upper : InsideBetween first middle bits at ws
  inside_upper b l = i b (omega arith)

  pub inside_lower : (place : ℕ) → middle ≤ first → place ≡ at + placed (suc first) bits middle → InsideBetween middle past bits place ws
  inside_lower place g e b l m t = omega (arith, i b l (omega arith) t, placed_between (suc first) bits b middle m (omega arith))

-- the upper part is filled, and then the lower one
pub filled_then : {first middle past bits at place : ℕ} {ws before between after : List ℕ} → Filled first middle bits at ws before between
    → place ≡ at + placed (suc first) bits middle → Filled middle past bits place ws between after → 9 ≤ past → past ≤ middle → middle ≤ first → first ≤ 30
    → Filled first past bits at ws before after
filled_then {first} {middle} {past} {bits} {at} {place} p e q bottom l m top = record {
  same = q.same ∙ p.same;
  filled = λ b g h.
      let o : slotted b ≡ true = slotted_all b (omega arith) (omega arith) in
      ⊎_elim
      (λ (k : b ≤ middle).
      let same_place : place + placed (suc middle) bits b ≡ at + placed (suc first) bits b =
      omega (arith, placed_between (suc first) bits b middle k (omega arith)) in
      q.filled b g k ∙ rw (same_place, p.lower b o k))
      (λ (k : middle < b). q.higher b o k ∙ p.filled b k h) (le_or_lt b middle);
  higher = λ b o h. q.higher b o (omega arith) ∙ p.higher b o h;
  lower = λ b o h. q.lower b o h ∙ p.lower b o (omega arith);
}

-- all bits that have a slot
pub filled_all : {bits at : ℕ} {ws before after : List ℕ} → Filled 30 9 bits at ws before after → length before ≡ slot_words
    → after ≡ refilled bits at ws before
unfolding refilled slot_in slot_at slot_bits slotted
filled_all {bits} {at} {ws} {before} {after} p l =
    sym (in_order_parts 31 slot_mask after (p.same ∙ l ∙ sym slots_whole))
    ∙ in_order_same 31 slot_mask (λ b. part (placed 31 slot_mask b) (field_size b) after)
    (λ b. pick (has bits b) (field_in 30 bits at ws b) (part (placed 31 slot_mask b) (field_size b) before))
    (λ b h e. p.filled b (slotted_low b e) (omega arith))

-- ---- the loop that fills a part: its head, start, turn and end

-- the bits above `bit` are passed, and their slots filled; the field of `bit` begins at `from`
pub record Holding (first past bits at : ℕ) (ws slots₀ slots : List ℕ) (bit slot from : ℕ) : Type 0 where
  pub along : Along first past bit slot
  pub there : from ≡ at + placed (suc first) bits bit
  pub sized : length slots ≡ slot_words
  pub inside : InsideBetween first past bits at ws
  pub passed : Filled first bit bits at ws slots₀ slots

pub holding_start : (first past bits at slot : ℕ) (ws slots : List ℕ) → length slots ≡ slot_words → 9 ≤ past → past ≤ first → first ≤ 30
    → InsideBetween first past bits at ws → slot ≡ slot_at first → Holding first past bits at ws slots slots first slot at
holding_start first past bits at slot ws slots l b m t i e = record {
  along = along_start first past slot b m t e;
  there = omega (arith, placed_first first bits);
  sized = l;
  inside = i;
  passed = record { same = refl; filled = λ x g h. absurd (omega arith); higher = λ x o h. refl; lower = λ x o h. refl };
}

module _ {first past bits at bit slot from : ℕ} {ws slots₀ slots : List ℕ} (p : Holding first past bits at ws slots₀ slots bit slot from) (more : past < bit)
    (n : ℕ) (en : n ≡ field_size bit) where
  -- the slot of this bit lies inside, as a copy asks
  pub holding_slot : slot + n ≤ length slots
  holding_slot = omega (arith, p.sized, along_slot p.along more n en)

  one_down : suc (bit - 1) ≡ bit
  one_down = omega arith

  -- whether its field is taken or passed over, the slots from here up are filled then
  passed_then : (after : List ℕ) → length after ≡ length slots → ((b : ℕ) → slotted b ≡ true → (b ≡ bit → ⊥) → slot_in b after ≡ slot_in b slots)
      → slot_in bit after ≡ pick (has bits bit) (field_in first bits at ws bit) (slot_in bit slots₀) → Filled first (bit - 1) bits at ws slots₀ after
  passed_then after same other this = record {
    same = same ∙ p.passed.same;
    filled = λ b g h.
        let o : slotted b ≡ true = slotted_all b (omega (arith, p.along.bottom)) (omega (arith, p.along.top)) in
        ⊎_elim (λ (e : b ≡ bit). rw e this) (λ (d : b ≡ bit → ⊥). other b o d ∙ p.passed.filled b (omega arith) h) (same_or_not b bit);
    higher = λ b o h. other b o (λ d. omega (arith, p.along.high)) ∙ p.passed.higher b o h;
    lower = λ b o h. other b o (λ d. omega arith) ∙ p.passed.lower b o (omega arith);
  }

  -- the field is there, and is copied
  module _ (t : bits / 2 ^ bit % 2 ≡ 1) where
    set : has bits bit ≡ true
    set = eq-eqb (bits / 2 ^ bit % 2) 1 t

    pub holding_field : from + n ≤ length ws
    holding_field = omega (arith, p.there, p.inside bit more p.along.high set)

    pub holding_fits : length ws < 2 ^ 64 → from + n < 2 ^ 64
    holding_fits h = omega (arith, holding_field)

    pub holding_taken : (from' : ℕ) (after : List ℕ) → after ≡ put slot n (part from n ws) slots → from' ≡ from + n
        → Holding first past bits at ws slots₀ after (bit - 1) (slot + n) from'
    holding_taken from' after e ef =
        let o = along_slotted p.along more in
        let m : length (part from (field_size bit) ws) ≡ field_size bit = part_length from (field_size bit) ws (omega (arith, holding_field)) in
        let a : after ≡ put (slot_at bit) (field_size bit) (part from (field_size bit) ws) slots = e ∙ rw (p.along.here, en) in
        let same : length after ≡ length slots =
        ap length a ∙ put_length (slot_at bit) (field_size bit) _ slots (omega (arith, p.sized, slot_inside bit o)) m in
        let next = placed_past (suc first) bits (bit - 1) (omega (arith, p.along.high)) (rw one_down set) in
        record {
          along = along_next p.along more n en;
          there = omega (arith, p.there, rw one_down at next);
          sized = same ∙ p.sized;
          inside = p.inside;
          passed =
              passed_then after same (λ b f d. rw a (slot_put_other bit _ slots p.sized o m b f d))
              (rw (a, set) (slot_put bit _ slots p.sized o m ∙ ap (λ (z : ℕ). part z (field_size bit) ws) p.there));
        }

  -- there is none
  pub holding_passed : (bits / 2 ^ bit % 2 ≡ 1 → ⊥) → (from' : ℕ) (after : List ℕ) → after ≡ slots → from' ≡ from
      → Holding first past bits at ws slots₀ after (bit - 1) (slot + n) from'
  holding_passed t from' after e ef =
      let unset : has bits bit ≡ false = ne_eqb (bits / 2 ^ bit % 2) 1 t in
      let next = placed_over (suc first) bits (bit - 1) (omega (arith, p.along.high)) (rw one_down unset) in
      rw (e, ef) (record {
        along = along_next p.along more n en;
        there = p.there ∙ ap (λ (m : ℕ). at + m) (sym (rw one_down at next));
        sized = p.sized;
        inside = p.inside;
        passed = passed_then slots refl (λ b f d. refl) (rw unset (p.passed.lower bit (along_slotted p.along more) (omega arith)));
      })

pub holding_end : {first past bits at bit slot from : ℕ} {ws slots₀ slots : List ℕ} → Holding first past bits at ws slots₀ slots bit slot from
    → bit ≤ past → Filled first past bits at ws slots₀ slots × (from ≡ at + placed (suc first) bits past)
holding_end p done = let e = along_end p.along done in (rw e at p.passed, rw e at p.there)
