-- Document 01, 'The table and its page': "An accepted Context packet replaces each field from bits 30 to 10 that it carries .. Bits 31, 9 and 8 are not
-- held"; document 02, C-11: "field 22, which is now checked and never held". Which fields have a slot and which are held is said here alone; where a slot
-- stands follows from it.
use Rattle.std.specs.Prelude.{ℕ, ◌-◌, ◌^◌, Bool, List, [], ◌∷◌, ◌++◌}
use Rattle.words.specs.Word.{has}
use Rattle.words.specs.SetBits.{bits_of, above}
use Rattle.fields.specs.Sizes.{sizes_of}

-- bits 30 to 10
unfoldable pub slot_mask : ℕ
slot_mask = 2 ^ 31 - 2 ^ 10

-- the field of bit b has a slot
unfoldable pub slotted : ℕ → Bool
slotted b = has slot_mask b

-- the bits of the fields that have one, in field order
unfoldable pub slot_bits : List ℕ
slot_bits = bits_of 31 slot_mask

-- where the slot of bit b begins among the slots: after those of the bits above b
unfoldable pub slot_at : ℕ → ℕ
slot_at b = sizes_of (above b slot_bits)

-- bits 30 to 10 but 22, whose slot stays zero
unfoldable pub held_mask : ℕ
held_mask = slot_mask - 2 ^ 22

-- the field of bit b is held
unfoldable pub holds : ℕ → Bool
holds b = has held_mask b

-- words for each of some bits, in the bits' order: a record's slots, "the held words in field order" of a page
unfoldable pub in_order : List ℕ → (ℕ → List ℕ) → List ℕ
in_order [] f = []
in_order (b ∷ bs) f = f b ++ in_order bs f
