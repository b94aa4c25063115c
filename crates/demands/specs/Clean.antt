-- Document 01, 'Payload': "Writers put zero in unused bits; readers ignore them." Words as a writer makes them.
use Rattle.std.specs.Prelude.{◌≡◌, ℕ, ◌-◌, ◌*◌, ◌%◌, ◌^◌, ◌≤◌, ◌<◌, List, get_or}
use Rattle.fields.specs.Format.{packing_size}
use Rattle.bitstream.specs.Stream.{bit}
use Rattle.bitstream.specs.Carried.{stream_bits}
use Rattle.payload_format.specs.Format.{carried_bits, packing_of}
use Rattle.payload_format.specs.Field.{field_in, unused_in}

-- the words have zero where no item and no tag stands: in each field's unused bits, in each word's bits that carry no field, and past the last field
pub record Clean (first n : ℕ) (ws : List ℕ) : Type 0 where
  pub unused : (k : ℕ) → k < n → unused_in (packing_of first) (field_in (packing_of first) ws k) ≡ 0
  pub uncarried : (j : ℕ) → get_or ws j 0 % 2 ^ (32 - carried_bits first) ≡ 0
  pub padding : (i : ℕ) → packing_size first * n ≤ i → bit (carried_bits first) (stream_bits (carried_bits first) ws) i ≡ 0
