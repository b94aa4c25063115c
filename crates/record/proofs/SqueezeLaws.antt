-- Slots and their held words. The idea: held words stand in field order as the slots do, so each field is found at its place among them (`in_order_at`); words
-- put back into zeroed slots give the slots again (`refilled_held`), and slots give the words again (`held_refilled`).
use Rattle.words.proofs.Kit.{◌≡◌, sym, ap, ◌∙◌, true, false, ⊎_elim, List, ℕ, ◌+◌, ◌<◌, arith, length, drop}
use Rattle.std.proofs.Common.{zero-add}
use lib.Bits.{bit_and}
use Rattle.words.specs.Tests.{pick}
use Rattle.words.specs.Word.{has}
use Rattle.words.specs.SetBits.{bits_of}
use Rattle.words.specs.Part.{part}
use Rattle.words.proofs.Cases.{true_or_false}
use Rattle.words.proofs.PartLaws.{part_drop, part_length}
use Rattle.fields.specs.Sizes.{field_size, sizes_of}
use Rattle.record.specs.Held.{slot_mask, slotted, slot_bits, slot_at}
use Rattle.record.specs.Layout.{slot_words, slot_in}
use Rattle.record.specs.After.{refilled, held_words}
use Rattle.record.proofs.SlotLaws.{placed, placed_inside, in_order_same, in_order_length, in_order_at, in_order_parts, slots_whole}
use Rattle.record.proofs.HoldLaws.{within_slotted, slot_sized}

-- fields that stand from a place on are those of the words from there on
pub refilled_drop : (bits at : ℕ) (ws slots : List ℕ) → refilled bits at ws slots ≡ refilled bits 0 (drop at ws) slots
unfolding refilled slot_bits
refilled_drop bits at ws slots =
    in_order_same 31 slot_mask _ _
    (λ b h e. ap (λ (f : List ℕ). pick (has bits b) f (slot_in b slots))
    (sym (part_drop (placed 31 bits b) (field_size b) at ws) ∙ ap (λ (n : ℕ). part n (field_size b) (drop at ws)) (sym (zero-add (placed 31 bits b)))))

module _ (held : ℕ) (within : bit_and held slot_mask ≡ held) where
  pub held_length : (slots : List ℕ) → length slots ≡ slot_words → length (held_words held slots) ≡ sizes_of (bits_of 31 held)
  unfolding held_words
  held_length slots l = in_order_length 31 held _ (λ b h e. slot_sized b slots l (within_slotted held within b e))

  -- what is put back of the held words of slots, into slots that agree with them where nothing is held
  pub refilled_held : (slots blank : List ℕ) → length slots ≡ slot_words → ((b : ℕ) → slotted b ≡ true → has held b ≡ false → slot_in b blank ≡ slot_in b slots)
      → refilled held 0 (held_words held slots) blank ≡ slots
  unfolding refilled held_words slot_bits slot_in slot_at slotted
  refilled_held slots blank l z =
      in_order_same 31 slot_mask _ (λ b. part (placed 31 slot_mask b) (field_size b) slots)
      (λ b h o.
      ⊎_elim
      (λ (y : has held b ≡ true). rw (y, zero-add (placed 31 held b))
      (in_order_at 31 held b (λ x. part (placed 31 slot_mask x) (field_size x) slots) (λ x g e. slot_sized x slots l (within_slotted held within x e)) h y))
      (λ (n : has held b ≡ false). rw n (z b o n))
      (true_or_false (has held b)))
      ∙ in_order_parts 31 slot_mask slots (l ∙ sym slots_whole)

  refilled_sized : (ws blank : List ℕ) → length ws ≡ sizes_of (bits_of 31 held) → length blank ≡ slot_words → (x : ℕ) → x < 31 → slotted x ≡ true
      → length (pick (has held x) (part (0 + placed 31 held x) (field_size x) ws) (slot_in x blank)) ≡ field_size x
  refilled_sized ws blank l m x g o =
      ⊎_elim (λ (y : has held x ≡ true). rw y (part_length (0 + placed 31 held x) (field_size x) ws (omega (arith, placed_inside 31 held x g y))))
      (λ (n : has held x ≡ false). rw n (slot_sized x blank m o)) (true_or_false (has held x))

  -- the held words of slots that words were put into
  pub held_refilled : (ws blank : List ℕ) → length ws ≡ sizes_of (bits_of 31 held) → length blank ≡ slot_words → held_words held (refilled held 0 ws blank) ≡ ws
  unfolding refilled held_words slot_bits slot_in slot_at slotted
  held_refilled ws blank l m =
      in_order_same 31 held _ (λ b. part (placed 31 held b) (field_size b) ws)
      (λ b h y.
      in_order_at 31 slot_mask b _ (λ x g o. refilled_sized ws blank l m x g o) h (within_slotted held within b y)
      ∙ rw (y, zero-add (placed 31 held b)))
      ∙ in_order_parts 31 held ws l
