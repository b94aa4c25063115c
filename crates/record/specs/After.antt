-- A record after an accepted packet: its type is counted, and the fields that a Context packet carries are held.
use Rattle.std.specs.Prelude.{bit_and, bit_or, ◌≡◌, ℕ, ◌+◌, ◌≤◌, Bool, true, List, [], ◌∷◌, eqb, length, get_or, set}
use Rattle.words.specs.Tests.{pick, both}
use Rattle.words.specs.Word.{has}
use Rattle.words.specs.Part.{part, put}
use Rattle.words.specs.SetBits.{bits_of, above}
use Rattle.fields.specs.Sizes.{field_size, sizes_of}
use Rattle.fields.specs.Layout.{indicator_of, field_of}
use Rattle.record.specs.Held.{slot_bits, held_mask, holds, in_order}
use Rattle.record.specs.State.{state_after}
use Rattle.record.specs.Layout.{head_words, slot_words, held_of, order_of, slot_in, slots_of}
use Rattle.record.specs.Counts.{count_record, added_to}

-- what the slot of bit b is where its field is carried, or is not: "An accepted Context packet replaces each field .. that it carries, whole", but for 16, of
-- which it replaces what it speaks of, and 22, which is never held
unfoldable pub slot_after : ℕ → Bool → List ℕ → List ℕ → List ℕ
slot_after b carried field slot =
    pick (both carried (holds b)) (pick (eqb b 16) (state_after (get_or field 0 0) (get_or slot 0 0) ∷ []) field) slot

-- after a packet with this body
abbrev pub slot_after_body : ℕ → List ℕ → List ℕ → List ℕ
slot_after_body b body slot = slot_after b (has (indicator_of body) b) (field_of b body) slot

-- the slots after it
unfoldable pub slots_after : List ℕ → List ℕ → List ℕ
slots_after body slots = in_order slot_bits (λ b. slot_after_body b body (slot_in b slots))

-- the held indicator after it: the carried bits of held fields are gained
unfoldable pub held_after : ℕ → ℕ → ℕ
held_after indicator held = bit_or held (bit_and indicator held_mask)

-- a record after a packet's fields are held
unfoldable pub hold_record : List ℕ → List ℕ → List ℕ
hold_record body r = set (put head_words slot_words (slots_after body (slots_of r)) r) 1 (held_after (indicator_of body) (held_of r))

-- a record after a packet of this type, count and body, and what it adds to missing
unfoldable pub record_after : ℕ → ℕ → List ℕ → List ℕ → List ℕ
record_after kind count body r = pick (eqb kind 4) (hold_record body (count_record (order_of kind) count r)) (count_record (order_of kind) count r)

unfoldable pub added_by : ℕ → ℕ → List ℕ → ℕ
added_by kind count r = added_to (order_of kind) count r

-- ---- fields that are put into their slots whole, as they stand in a packet or in a page

-- the slots where the fields of these bits stand in ws, one after the other from the place at on: a slot has its field's words, and else what it had
unfoldable pub refilled : ℕ → ℕ → List ℕ → List ℕ → List ℕ
refilled bits at ws slots = in_order slot_bits (λ b. pick (has bits b) (part (at + sizes_of (above b (bits_of 31 bits))) (field_size b) ws) (slot_in b slots))

-- the field of each of these bits, where they stand so, lies inside the words
abbrev pub Inside : ℕ → ℕ → List ℕ → Type 0
Inside bits at ws = (b : ℕ) → has bits b ≡ true → at + sizes_of (above b (bits_of 31 bits)) + field_size b ≤ length ws

-- the held words in field order, of slots: what stands of them in a page
unfoldable pub held_words : ℕ → List ℕ → List ℕ
held_words held slots = in_order (bits_of 31 held) (λ b. slot_in b slots)
