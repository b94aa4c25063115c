-- Fields put into their slots by parts of the bits: those from `first` down to the one above `past`. A part and the next below it are one part together
-- (`filled_then`, proofs/HoldLaws.antt), and the part of all bits that have a slot is `refilled` (`filled_all`).
use Rattle.std.specs.Prelude.{◌≡◌, ℕ, suc, ◌+◌, ◌≤◌, ◌<◌, true, List, length}
use Rattle.words.specs.Tests.{pick}
use Rattle.words.specs.Word.{has}
use Rattle.words.specs.Part.{part}
use Rattle.words.specs.SetBits.{bits_of, above}
use Rattle.fields.specs.Sizes.{field_size, sizes_of}
use Rattle.record.specs.Held.{slotted}
use Rattle.record.specs.Layout.{slot_in}

-- the field of each of these bits lies inside the words, where they stand one after the other from the place at on
abbrev pub InsideBetween : ℕ → ℕ → ℕ → ℕ → List ℕ → Type 0
InsideBetween first past bits at ws =
    (b : ℕ) → past < b → b ≤ first → has bits b ≡ true → at + sizes_of (above b (bits_of (suc first) bits)) + field_size b ≤ length ws

-- the slots before and after: of these bits, a slot has its field's words, and else what it had; the slots of the bits above and below are as they were
pub record Filled (first past bits at : ℕ) (ws before after : List ℕ) : Type 0 where
  pub same : length after ≡ length before
  pub filled : (b : ℕ) → past < b → b ≤ first
      → slot_in b after ≡ pick (has bits b) (part (at + sizes_of (above b (bits_of (suc first) bits))) (field_size b) ws) (slot_in b before)
  pub higher : (b : ℕ) → slotted b ≡ true → first < b → slot_in b after ≡ slot_in b before
  pub lower : (b : ℕ) → slotted b ≡ true → b ≤ past → slot_in b after ≡ slot_in b before
