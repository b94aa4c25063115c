-- Tables of streams: the values of each answer, in the order of include/vrt49.h.
use Rattle.std.specs.Prelude.{ℕ, List, [], ◌∷◌}
use Rattle.play.specs.declared.Heard.{Heard}
use Rattle.play.specs.declared.run.Reached.{Reached}

-- size, type, stream, missing
abbrev pub heard_values : Heard → List ℕ
heard_values h = h.size ∷ h.kind ∷ h.stream ∷ h.missing ∷ []

-- the packets that have an entry, and the place after them
abbrev pub reached_values : Reached → ℕ × ℕ
reached_values r = (r.packets, r.next)
