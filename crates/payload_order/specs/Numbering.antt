-- Document 02, C-12: what the two calls of the numbering answer. Their order of refusals is that of packing, without ROOM: FORMAT, COUNT, VALUE.
use Rattle.std.specs.Prelude.{ℕ, ◌/◌, Bool, [], ◌∷◌, leb}
use Rattle.words.specs.Tests.{either}
use Rattle.words.specs.Outcome.{Outcome, accepted}
use Rattle.words.specs.Refusals.{Refusals, first_given}
use Rattle.words.specs.Numbers.{FORMAT, COUNT, VALUE}
use Rattle.payload_format.specs.Format.{component_repeat, vector_size, repeat_size, component_count, format_bad}
use Rattle.payload_format.specs.Count.{group_of, count_bad}
use Rattle.payload_order.specs.declared.Coordinates.{Coordinates}
use Rattle.payload_order.specs.Order.{item_number, item_coordinates, Inside}

-- ---- the numbering under a format

abbrev pub coordinates_under : (first second item : ℕ) → Coordinates
coordinates_under first second item = item_coordinates (component_repeat first) (vector_size second) (repeat_size second) (component_count first) item

abbrev pub item_under : (first second : ℕ) → Coordinates → ℕ
item_under first second at = item_number (component_repeat first) (vector_size second) (repeat_size second) (component_count first) at

-- ---- from an item

-- VALUE: the payload has no such item
abbrev pub coordinates_list : (first second n item : ℕ) → Refusals
coordinates_list first second n item = (FORMAT, format_bad first) ∷ (COUNT, count_bad first second n) ∷ (VALUE, leb n item) ∷ []

-- what `coordinates_of` answers
unfoldable pub coordinates_of : (first second n item : ℕ) → Outcome Coordinates
coordinates_of first second n item = first_given (coordinates_list first second n item) (accepted (coordinates_under first second item))

-- ---- and back

-- the coordinates that n items have
abbrev pub InBox : (first second n : ℕ) → Coordinates → Type 0
InBox first second n at = Inside (n / group_of first second) (vector_size second) (repeat_size second) (component_count first) at

-- a coordinate is outside its range: the groups of n items, the vector size, the components, the repeat
unfoldable pub outside : (first second n : ℕ) → Coordinates → Bool
outside first second n at =
    either (leb (n / group_of first second) at.time)
    (either (leb (vector_size second) at.channel)
    (either (leb (component_count first) at.component)
    (leb (repeat_size second) at.repeat)))

-- VALUE: the payload has no item there
abbrev pub item_list : (first second n : ℕ) → Coordinates → Refusals
item_list first second n at = (FORMAT, format_bad first) ∷ (COUNT, count_bad first second n) ∷ (VALUE, outside first second n at) ∷ []

-- what `item_at` answers
unfoldable pub item_of : (first second n : ℕ) → Coordinates → Outcome ℕ
item_of first second n at = first_given (item_list first second n at) (accepted (item_under first second at))
