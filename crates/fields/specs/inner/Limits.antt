-- The field rules as the program asks them: whether a field has a rule, a limit of its first word, and what else the rule says of its first two words.
-- That these are document 01's rules say the laws `unruled_kept` and `rule_limit` of `proofs/RuleLaws.antt`.
use Rattle.std.specs.Prelude.{ℕ, ◌^◌, Bool, true, List, [], ◌∷◌, ◌++◌, eqb, ltb}
use Rattle.words.specs.Tests.{pick, among}
use Rattle.words.specs.Word.{bits}
use Rattle.fields.specs.Format.{format_ok}
use Rattle.fields.specs.Rules.{not_negative_fields, upper_half_fields, state_rule, lists_rule}

-- the fields that have a rule
abbrev pub ruled_fields : List ℕ
ruled_fields = not_negative_fields ++ upper_half_fields ++ (17 ∷ 16 ∷ 15 ∷ 9 ∷ 8 ∷ [])

unfoldable pub ruled : ℕ → Bool
ruled b = among b ruled_fields

-- what the first word of the field of bit b is below
unfoldable pub limit_of : ℕ → ℕ
limit_of b =
    pick (among b not_negative_fields) (2 ^ 31)
    (pick (among b upper_half_fields) (2 ^ 16)
    (pick (among b (17 ∷ 9 ∷ [])) (2 ^ 24)
    (2 ^ 32)))

-- its first word u is below
unfoldable pub first_ok : ℕ → ℕ → Bool
first_ok b u = ltb u (limit_of b)

-- what device's rule says of its second word
unfoldable pub device_second : ℕ → Bool
device_second v = eqb (bits 31 16 v) 0

-- what else is asked of a field whose first words are u and v
unfoldable pub more_ok : ℕ → ℕ → ℕ → Bool
more_ok b u v =
    pick (eqb b 17) (device_second v)
    (pick (eqb b 16) (state_rule (u ∷ []))
    (pick (eqb b 15) (format_ok u)
    (pick (eqb b 8) (lists_rule (u ∷ []))
    true)))
