-- Document 01, 'The packet': "A type 4 body begins with the indicator word. .. Fields follow from bit 30 downwards."
-- A word past the end of a body reads as 0: a body that ends inside a field has fewer words than its fields need, whatever that field says.
use Rattle.std.specs.Prelude.{ℕ, ◌+◌, Bool, true, not, List, [], ◌∷◌, eqb, ltb, leb, length, take, drop, get_or}
use Rattle.words.specs.Numbers.{INDICATOR, LAYOUT, FIELD}
use Rattle.words.specs.Tests.{pick, both}
use Rattle.words.specs.Word.{bits, has}
use Rattle.words.specs.SetBits.{bits_of, above}
use Rattle.words.specs.Outcome.{Outcome, accepted}
use Rattle.words.specs.Refusals.{Refusals, first_given}
use Rattle.fields.specs.Sizes.{words_of}
use Rattle.fields.specs.Rules.{rule_of}

-- the bits of an indicator's fields, in the order of the fields: "Bit 31 says "changed" and has no field"
abbrev pub carried : ℕ → List ℕ
carried indicator = bits_of 31 indicator

-- how many fields an indicator carries: those above bit 7. Bits 7-0 have none; a body that carries one is refused
unfoldable pub field_count : ℕ → ℕ
field_count indicator = length (above 7 (carried indicator))

-- the words that the fields of these bits take, one after the other from the front of ws
unfoldable pub span_of : List ℕ → List ℕ → ℕ
span_of [] ws = 0
span_of (b ∷ bs) ws = words_of b ws + span_of bs (drop (words_of b ws) ws)

-- each of these fields obeys its rule
unfoldable pub obeyed : List ℕ → List ℕ → Bool
obeyed [] ws = true
obeyed (b ∷ bs) ws = both (rule_of b ws) (obeyed bs (drop (words_of b ws) ws))

-- ---- a body

abbrev pub indicator_of : List ℕ → ℕ
indicator_of body = get_or body 0 0

-- the words that a body needs: the indicator and its fields
unfoldable pub body_words : List ℕ → ℕ
body_words body = 1 + span_of (carried (indicator_of body)) (drop 1 body)

-- where the field of bit b stands: after the indicator and the fields of the bits above b
unfoldable pub place_of : ℕ → List ℕ → ℕ
place_of b body = 1 + span_of (above b (carried (indicator_of body))) (drop 1 body)

-- the words of the field of bit b
unfoldable pub field_of : ℕ → List ℕ → List ℕ
field_of b body = take (words_of b (drop (place_of b body) body)) (drop (place_of b body) body)

-- ---- a field that is looked for

-- the place and the words of the field of bit b that stands at a place of a body; nothing where it does not lie wholly inside
unfoldable pub inside_of : ℕ → ℕ → List ℕ → List ℕ
inside_of b at body = pick (leb (at + words_of b (drop at body)) (length body)) (at ∷ words_of b (drop at body) ∷ []) []

-- the place and the words of the field of bit b of a body; nothing where b is not 30 to 8, or the indicator does not carry it
unfoldable pub found_of : ℕ → List ℕ → List ℕ
found_of b body = pick (ltb 30 b) [] (pick (ltb b 8) [] (pick (has (indicator_of body) b) (inside_of b (place_of b body) body) []))

-- ---- the refusals, in their order

-- INDICATOR: "bits 7-0 not zero"
unfoldable pub low_bits_set : List ℕ → Bool
low_bits_set body = not (eqb (bits 7 0 (indicator_of body)) 0)

-- LAYOUT: "fields need more or fewer words than the body has"
unfoldable pub other_length : List ℕ → Bool
other_length body = not (eqb (body_words body) (length body))

-- FIELD: "a field rule is broken"
unfoldable pub rule_broken : List ℕ → Bool
rule_broken body = not (obeyed (carried (indicator_of body)) (drop 1 body))

abbrev pub context_list : List ℕ → Refusals
context_list body = (INDICATOR, low_bits_set body) ∷ (LAYOUT, other_length body) ∷ (FIELD, rule_broken body) ∷ []

-- what a type 4 body is refused for
unfoldable pub context_of : List ℕ → Outcome Unit
context_of body = first_given (context_list body) (accepted tt)
