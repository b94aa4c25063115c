-- The answers of this crate's calls, by their values.
use Rattle.std.specs.Prelude.{ℕ, List, [], ◌∷◌, Option, Some, None}
use Rattle.fields.specs.declared.places.Found.{Found}

-- a field's place and words, or nothing
abbrev pub found_paper : Option Found → List ℕ
found_paper (Some f) = f.at ∷ f.words ∷ []
found_paper None = []
