-- Document 01, 'The packet': "Field rules". Each rule is of a field whose own words are the first of ws.
use Rattle.std.specs.Prelude.{ℕ, Bool, true, List, [], ◌∷◌, eqb, get_or}
use Rattle.words.specs.Tests.{pick, both, among}
use Rattle.words.specs.Word.{bits}
use Rattle.fields.specs.Format.{format_ok}

-- "bandwidth (29) and sample rate (21) are not negative": the sign is the highest bit of their two words
abbrev pub not_negative_fields : List ℕ
not_negative_fields = 29 ∷ 21 ∷ []

unfoldable pub not_negative : List ℕ → Bool
not_negative ws = eqb (bits 31 31 (get_or ws 0 0)) 0

-- "level (24) and temperature (18) have a zero upper half"
abbrev pub upper_half_fields : List ℕ
upper_half_fields = 24 ∷ 18 ∷ []

unfoldable pub upper_half_zero : List ℕ → Bool
upper_half_zero ws = eqb (bits 31 16 (get_or ws 0 0)) 0

-- "device (17) has zero in 31-24 of its first and 31-16 of its second word"
unfoldable pub device_rule : List ℕ → Bool
device_rule ws = both (eqb (bits 31 24 (get_or ws 0 0)) 0) (eqb (bits 31 16 (get_or ws 1 0)) 0)

-- "state (16) has zero in 23-20 and 11-8"
unfoldable pub state_rule : List ℕ → Bool
state_rule ws = both (eqb (bits 23 20 (get_or ws 0 0)) 0) (eqb (bits 11 8 (get_or ws 0 0)) 0)

-- "Format (15)"
unfoldable pub format_rule : List ℕ → Bool
format_rule ws = format_ok (get_or ws 0 0)

-- "field 9 has zero in 31-24 of its first word"
unfoldable pub ascii_rule : List ℕ → Bool
ascii_rule ws = eqb (bits 31 24 (get_or ws 0 0)) 0

-- "field 8 in 31-25 and 15-9 of its first"
unfoldable pub lists_rule : List ℕ → Bool
lists_rule ws = both (eqb (bits 31 25 (get_or ws 0 0)) 0) (eqb (bits 15 9 (get_or ws 0 0)) 0)

-- the rule of the field of bit b; "Other contents are free"
unfoldable pub rule_of : ℕ → List ℕ → Bool
rule_of b ws =
    pick (among b not_negative_fields) (not_negative ws)
    (pick (among b upper_half_fields) (upper_half_zero ws)
    (pick (eqb b 17) (device_rule ws)
    (pick (eqb b 16) (state_rule ws)
    (pick (eqb b 15) (format_rule ws)
    (pick (eqb b 9) (ascii_rule ws)
    (pick (eqb b 8) (lists_rule ws)
    true))))))
