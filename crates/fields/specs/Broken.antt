-- Document 02, C-15: of FIELD the place is "the first word of the highest broken field", and FIELD carries "also the field bit".
use Rattle.std.specs.Prelude.{◌≡◌, ℕ, ◌<◌, Bool, true, false, not, List, [], ◌∷◌, drop}
use Rattle.words.specs.declared.Where.{Where}
use Rattle.words.specs.declared.Where.TheVariants.{Nowhere, Field}
use Rattle.words.specs.Tests.{pick}
use Rattle.words.specs.Word.{has}
use Rattle.fields.specs.Rules.{rule_of}
use Rattle.fields.specs.Layout.{carried, indicator_of, place_of}

-- the field of bit b, where it stands in a body, breaks its rule
unfoldable pub breaks : ℕ → List ℕ → Bool
breaks b body = not (rule_of b (drop (place_of b body) body))

-- the first of some bits whose field breaks its rule, with the place of its first word from the body's start
unfoldable pub first_broken : List ℕ → List ℕ → Where
first_broken [] body = Nowhere
first_broken (b ∷ bs) body = pick (breaks b body) (Field (place_of b body) b) (first_broken bs body)

-- the highest broken field of a body, since its bits come highest first; nowhere if no field is broken
unfoldable pub broken_of : List ℕ → Where
broken_of body = first_broken (carried (indicator_of body)) body

-- the same by itself (`broken_meant`, in proofs/BrokenLaws.antt): bit b is carried, its field breaks its rule, the fields above it obey, and it stands at p
pub record Highest (body : List ℕ) (p b : ℕ) : Type 0 where
  pub field : b < 31
  pub carries : has (indicator_of body) b ≡ true
  pub broken : breaks b body ≡ true
  pub obey : (x : ℕ) → b < x → x < 31 → has (indicator_of body) x ≡ true → breaks x body ≡ false
  pub place : p ≡ place_of b body
