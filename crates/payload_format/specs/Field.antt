-- Document 01, 'Payload': "A packing field holds the item at its left, unused bits, event tags, then the channel tag at its right."
use Rattle.std.specs.Prelude.{ℕ, ◌+◌, ◌-◌, ◌*◌, ◌/◌, ◌%◌, ◌^◌, List, get_or}
use Rattle.bitstream.specs.Carried.{packing_field}
use Rattle.payload_format.specs.declared.inner.Packing.{Packing}

-- ---- reading

-- packing field k of the words ws
abbrev pub field_in : Packing → List ℕ → ℕ → ℕ
field_in p ws k = packing_field p.carry p.field ws k

-- "the item at its left"
abbrev pub item_in : Packing → ℕ → ℕ
item_in p v = v / 2 ^ (p.field - p.item)

-- "event tags, then the channel tag at its right"; "Size-zero tags read as 0", since a remainder by 2 ^ 0 is 0
abbrev pub event_in : Packing → ℕ → ℕ
event_in p v = v / 2 ^ p.channel % 2 ^ p.event

abbrev pub channel_in : Packing → ℕ → ℕ
channel_in p v = v % 2 ^ p.channel

-- "readers ignore" the unused bits, between the item and the event tags
abbrev pub unused_in : Packing → ℕ → ℕ
unused_in p v = v / 2 ^ (p.event + p.channel) % 2 ^ (p.field - p.item - (p.event + p.channel))

-- ---- writing

-- the field that these parts make: "Writers put zero in unused bits"
abbrev pub made : Packing → ℕ → ℕ → ℕ → ℕ
made p i e c = i * 2 ^ (p.field - p.item) + (e * 2 ^ p.channel + c)

-- the fields of three lists; past their ends they are 0
abbrev pub fields_of : Packing → List ℕ → List ℕ → List ℕ → ℕ → ℕ
fields_of p items events channels k = made p (get_or items k 0) (get_or events k 0) (get_or channels k 0)
