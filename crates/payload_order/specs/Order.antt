-- Document 02, C-12: "Add both orders (section 6.1.6.3 of source document 003) and the numbering from an item to time, channel, component and repeat and back".
-- Items are numbered from 0 as they stand in the payload. Here v is the vector size, r the repeat, c the number of components of a sample, and `apart`
-- is bit 23 of the format: the components of repeated samples stand apart.
use Rattle.std.specs.Prelude.{ℕ, ◌+◌, ◌*◌, ◌/◌, ◌%◌, ◌<◌, Bool}
use Rattle.words.specs.Tests.{pick}
use Rattle.payload_order.specs.declared.Coordinates.{Coordinates}

-- The item of coordinates. Groups follow each other, Def. 6.1.6.5-1: "the entire data payload can be described as a sequence of identical" structures; in a
-- group the channels, Def. 6.1.6.3-4: r samples of each stand before those "from the next Channel". Bit 23 zero, R. 6.1.6.3-8: "the number of Data Samples
-- specified for each Channel by the Repeat Count" follow each other, and R. 6.1.6.3-3, -4: a sample's second component follows its first at once. Bit 23 one,
-- R. 6.1.6.3-6, -7: "the number of "I" Data Items specified by the Repeat Count", "followed by the corresponding "Q" Data Items similarly arranged".
unfoldable pub item_number : Bool → (v r c : ℕ) → Coordinates → ℕ
item_number apart v r c at =
    pick apart
    (((at.time * v + at.channel) * c + at.component) * r + at.repeat)
    (((at.time * v + at.channel) * r + at.repeat) * c + at.component)

-- The coordinates of an item: the quotients and remainders of these sums.
unfoldable pub item_coordinates : Bool → (v r c : ℕ) → ℕ → Coordinates
item_coordinates apart v r c item =
    pick apart
    (record { time = item / r / c / v; channel = item / r / c % v; component = item / r % c; repeat = item % r })
    (record { time = item / c / r / v; channel = item / c / r % v; component = item % c; repeat = item / c % r })

-- the box of coordinates that a payload of so many groups has
pub record Inside (groups v r c : ℕ) (at : Coordinates) : Type 0 where
  pub time : at.time < groups
  pub channel : at.channel < v
  pub component : at.component < c
  pub repeat : at.repeat < r

-- The instant of a sample: how many samples of its channel come before it in the payload. Each group before has r of them.
abbrev pub instant : ℕ → Coordinates → ℕ
instant r at = at.time * r + at.repeat
