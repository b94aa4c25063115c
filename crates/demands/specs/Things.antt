-- What is kept of what Context packets say, thing by thing. Document 02, C-11: "The last-carried rule of demand 3 is read per indicator." A thing is a field
-- that is replaced whole, one of the six persistent indicators of field 16, or its user bits, which are "replaced together".
use Rattle.std.specs.Prelude.{ℕ, ◌+◌, ◌-◌, ◌%◌, ◌^◌, Bool, true, false, not, List, [], ◌∷◌, eqb, leb, ltb, get_or}
use Rattle.std.proofs.Math.Option.{Option, none, some}
use Rattle.words.specs.Tests.{pick, when, both}
use Rattle.words.specs.Word.{has, marked}

pub data Thing : Type 0 where
  whole_field : (bit : ℕ) → Thing
  state_indicator : (enable : ℕ) → Thing
  user_bits : Thing

-- "from bits 30 to 10"
abbrev pub field_bit : ℕ → Bool
field_bit b = both (leb 10 b) (leb b 30)

-- the fields that are kept: "field 22 .. is now checked and never held"
abbrev pub kept : ℕ → Bool
kept b = both (field_bit b) (not (eqb b 22))

-- those that are replaced whole: all but field 16
abbrev pub replaced : ℕ → Bool
replaced b = both (kept b) (not (eqb b 16))

-- the indicators of field 16, by the bit of their enable; the value of each stands 12 bits below. Those that persist are 31 to 26; "over-range and sample loss
-- (25/13, 24/12) are never held"
abbrev pub persistent : ℕ → Bool
persistent e = both (leb 26 e) (leb e 31)

abbrev pub passing : ℕ → Bool
passing e = both (leb 24 e) (leb e 25)

-- what some fields tell of a thing: its value, or nothing. The fields are those of an indicator word, each with its words: a packet's, or those that a record
-- holds. Of an indicator of field 16 they tell where its enable is set, and its value is 1 or 0.
abbrev pub tells_of : Thing → (indicator : ℕ) → (words : ℕ → List ℕ) → Option (List ℕ)
tells_of (whole_field b) indicator words = pick (both (replaced b) (has indicator b)) (some (words b)) none
tells_of (state_indicator e) indicator words =
    let state = get_or (words 16) 0 0 in
    pick (both (persistent e) (both (has indicator 16) (has state e))) (some (when (has state (e - 12)) 1 ∷ [])) none
tells_of user_bits indicator words = pick (has indicator 16) (some (get_or (words 16) 0 0 % 2 ^ 8 ∷ [])) none

-- ---- a field again, from its things

abbrev pub is_there : {A : Type 0} → Option A → Bool
is_there none = false
is_there (some a) = true

-- the words of a value, and its first
abbrev pub words_by : Option (List ℕ) → List ℕ
words_by none = []
words_by (some v) = v

abbrev pub word_by : Option (List ℕ) → ℕ
word_by v = get_or (words_by v) 0 0

-- the state word of these things: the user bits; of each indicator that is there its enable, and 12 bits below its value; no other bit
abbrev pub state_bit : (Thing → Option (List ℕ)) → ℕ → Bool
state_bit things i =
    pick (ltb i 8) (has (word_by (things user_bits)) i)
    (pick (persistent (i + 12)) (eqb (word_by (things (state_indicator (i + 12)))) 1)
    (both (persistent i) (is_there (things (state_indicator i)))))

unfoldable pub state_of : (Thing → Option (List ℕ)) → ℕ
state_of things = marked 32 (state_bit things)

-- the words of the field of bit b: of 16 the state word, where there are user bits; of 22 none
abbrev pub field_by : ℕ → (Thing → Option (List ℕ)) → Option (List ℕ)
field_by b things = pick (eqb b 16) (pick (is_there (things user_bits)) (some (state_of things ∷ [])) none) (things (whole_field b))
