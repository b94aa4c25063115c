-- "Context fields .. are read": what `find` gives of the body of an accepted Context packet. Document 01, 'The packet': "A type 4 body begins with the
-- indicator word. Bit 31 says "changed" and has no field. Fields follow from bit 30 downwards."
use Rattle.std.specs.Prelude.{◌≡◌, ℕ, ◌+◌, ◌≤◌, Bool, true, false, List, [], ◌∷◌, leb, length}
use Rattle.words.specs.Tests.{both}
use Rattle.words.specs.Word.{has}
use Rattle.words.specs.Part.{part}
use Rattle.fields.specs.Layout.{indicator_of, place_of, field_of}
use Rattle.demands.specs.Program.{Program}

-- the body carries the field of bit b; those that have one are bits 30 to 8
abbrev pub carries_field : ℕ → List ℕ → Bool
carries_field b body = both (both (leb 8 b) (leb b 30)) (has (indicator_of body) b)

-- a field that is carried is found, at its place after the indicator and the fields of the bits above, with its words, which lie in the body; by these
-- words the fields of a packet tell what is held (`value_carried`). No other is found.
pub record FieldFound (P : Program) (b : ℕ) (body : List ℕ) : Type 0 where
  pub carried : carries_field b body ≡ true → P.find b body ≡ place_of b body ∷ length (field_of b body) ∷ []
  pub inside : carries_field b body ≡ true → place_of b body + length (field_of b body) ≤ length body
  pub words : carries_field b body ≡ true → part (place_of b body) (length (field_of b body)) body ≡ field_of b body
  pub absent : carries_field b body ≡ false → P.find b body ≡ []
