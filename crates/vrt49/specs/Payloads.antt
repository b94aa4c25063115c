-- Packed samples: the coordinates of an item as four words, in the order of include/vrt49.h.
use Rattle.std.specs.Prelude.{ℕ, List, [], ◌∷◌, get_or}
use Rattle.payload_order.specs.declared.Coordinates.{Coordinates}

-- time, channel, component, repeat
abbrev pub coordinates_values : Coordinates → List ℕ
coordinates_values at = at.time ∷ at.channel ∷ at.component ∷ at.repeat ∷ []

abbrev pub coordinates_in : List ℕ → Coordinates
coordinates_in ws = record { time = get_or ws 0 0; channel = get_or ws 1 0; component = get_or ws 2 0; repeat = get_or ws 3 0 }
