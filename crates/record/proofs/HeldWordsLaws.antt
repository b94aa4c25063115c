-- The words that a record holds for a field. The idea: they are a part of the record, its slot, and also those of an absent field are, which are none. Here b
-- is the field's bit, at where its slot begins among the slots, z its size, h whether it is held, and n how many words are.
use Rattle.words.proofs.Kit.{◌≡◌, refl, sym, ap, ◌∙◌, Bool, true, false, List, [], ℕ, ◌+◌, ◌≤◌, arith, length}
use Rattle.words.specs.Tests.{pick, when}
use Rattle.words.specs.Part.{part}
use Rattle.words.proofs.Cases.{when_most}
use Rattle.words.proofs.PartLaws.{part_part, part_length}
use Rattle.fields.specs.Sizes.{field_size}
use Rattle.record.specs.Held.{slotted, slot_at}
use Rattle.record.specs.Layout.{head_words, slot_words, record_words, slot_in, slots_of, slot_of, is_held, held_words_in}
use Rattle.record.proofs.SlotLaws.{slotted_all}
use Rattle.record.proofs.HoldLaws.{slot_inside}

module _ (r : List ℕ) (b at z : ℕ) (l : length r ≡ record_words) (lo : 10 ≤ b) (hi : b ≤ 30) (ea : at ≡ slot_at b) (ez : z ≡ field_size b) where
  slotted_here : slotted b ≡ true
  slotted_here = slotted_all b lo (omega arith)

  pub slot_is : slot_of b r ≡ part (head_words + at) (field_size b) r
  unfolding slot_of slot_in slots_of
  slot_is = rw ea (part_part (slot_at b) (field_size b) head_words slot_words r (slot_inside b slotted_here))

  pub slot_most : head_words + at + z ≤ length r
  slot_most = omega (arith, slot_inside b slotted_here)

  -- the held words are a part of the record
  part_when : (t : Bool) → pick t (slot_of b r) [] ≡ part (head_words + at) (when t (field_size b)) r
  unfolding part
  part_when true = slot_is
  part_when false = refl

  module _ (n : ℕ) (h : Bool) (eh : h ≡ is_held b r) (en : n ≡ when h z) where
    pub held_most : head_words + at + n ≤ length r
    held_most = omega (arith, slot_most, when_most h z)

    pub held_part : held_words_in b r ≡ part (head_words + at) n r
    unfolding held_words_in
    held_part = part_when (is_held b r) ∙ ap (λ (k : ℕ). part (head_words + at) k r) (rw (← eh, ← ez) (sym en))

    pub held_length : length (held_words_in b r) ≡ n
    held_length = ap length held_part ∙ part_length (head_words + at) n r held_most
