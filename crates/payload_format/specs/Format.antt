-- Document 01, 'Payload': the format's two words. The parts of the first that field 15's rule speaks of are named in crate `fields`.
use Rattle.std.specs.Prelude.{ℕ, ◌+◌, ◌*◌, ◌/◌, Bool, not, eqb, ltb, leb}
use Rattle.words.specs.Tests.{pick, both, either}
use Rattle.words.specs.Word.{bits, has}
use Rattle.fields.specs.Format.{real_complex, event_size, channel_size, packing_size, item_size, format_ok}
use Rattle.payload_format.specs.declared.inner.Packing.{Packing}

-- ---- the parts

-- "link-efficient 31 (0 is processing-efficient)"
abbrev pub link_efficient : ℕ → Bool
link_efficient first = has first 31

-- "component repeat 23"
abbrev pub component_repeat : ℕ → Bool
component_repeat first = has first 23

-- "Second word: repeat minus one 31-16"
abbrev pub repeat_size : ℕ → ℕ
repeat_size second = bits 31 16 second + 1

-- "vector minus one 15-0"
abbrev pub vector_size : ℕ → ℕ
vector_size second = bits 15 0 second + 1

-- how many components a sample has: "2 (complex) or 1 (real)"
unfoldable pub component_count : ℕ → ℕ
component_count first = pick (eqb (real_complex first) 0) 1 2

-- ---- FORMAT

-- "a processing-efficient field of 33 to 63 bits"
unfoldable pub wide_processing : ℕ → Bool
wide_processing first = both (not (link_efficient first)) (both (ltb 32 (packing_size first)) (ltb (packing_size first) 64))

-- FORMAT is given when: "rule of field 15 broken, .. a processing-efficient field of 33 to 63 bits". Document 02, C-12: "FORMAT no longer covers repeat or
-- bit 23", so the second word has no say in it.
unfoldable pub format_bad : ℕ → Bool
format_bad first = either (not (format_ok first)) (wide_processing first)

-- ---- how fields lie in words

-- How many bits of each word carry packing fields. "Link-efficient fields of f bits follow without a gap": all 32. "Processing-efficient: each word
-- holds as many whole fields as fit, from the left": those of whole fields; "f of 64 takes two words": all 32 of both.
unfoldable pub carried_bits : ℕ → ℕ
carried_bits first =
    pick (link_efficient first) 32
    (pick (leb (packing_size first) 32) (32 / packing_size first * packing_size first)
    32)

-- the sizes that a format gives
unfoldable pub packing_of : ℕ → Packing
packing_of first = record {
  carry = carried_bits first;
  field = packing_size first;
  item = item_size first;
  event = event_size first;
  channel = channel_size first;
}
