-- What a table says of a stream: the values of each answer, in the order of include/vrt49.h.
use Rattle.std.specs.Prelude.{ℕ, List, [], ◌∷◌}
use Rattle.panel_streams.specs.Identity.{Declared}
use Rattle.panel_streams.specs.TypeCounts.{Count, started, not_started}

-- the identifier, the choice, and the held indicator
abbrev pub identity_values : Declared → ℕ × ℕ × ℕ
identity_values d = (d.identifier, d.choice, d.held)

-- four zeros where the type has not started; else 1, seen, missing and last
abbrev pub count_values : Count → List ℕ
count_values not_started = 0 ∷ 0 ∷ 0 ∷ 0 ∷ []
count_values (started seen missing last) = 1 ∷ seen ∷ missing ∷ last ∷ []
