-- What each step of reading finds. That the steps, one after the other, find what reading answers says `proofs/FrontLaws.antt`.
use Rattle.std.specs.Prelude.{◌≡◌, ℕ, ◌^◌, ◌≤◌, ◌<◌, Bool, true, List, [], ◌∷◌, ◌++◌, length, get_or}
use Rattle.words.specs.Numbers.{FIELD, PAD}
use Rattle.words.specs.Outcome.{Outcome, accepted}
use Rattle.words.specs.Refusals.{Refusals, first_given, only_where}
use Rattle.words.specs.Told.{place_word}
use Rattle.packet_survey.specs.Payload.{pad_bad}
use Rattle.packet.specs.Header.{type_of, classed, trailed, size_of}
use Rattle.packet.specs.Parts.{required_of, body_length, body_of}
use Rattle.packet.specs.Read.{header_list, size_list, prologue_list, body_list, sized_list, governed, pad_list}
use Rattle.packet.specs.Told.{where_of}

-- of words that are refused with a number, where it is FIELD: the required parts fit the size, and the size the words
abbrev pub FieldFits : ℕ → List ℕ → Type 0
FieldFits n ws = n ≡ FIELD → let w = get_or ws 0 0 in (required_of w ≤ size_of w) × (size_of w ≤ length ws)

-- and the place of any number fits a word
pub record Placeable (n : ℕ) (ws : List ℕ) : Type 0 where
  pub field : FieldFits n ws
  pub small : place_word (where_of ws n) < 2 ^ 32

-- of a header, a size, a prologue and a body
unfoldable pub header_checks : ℕ → Outcome Unit
header_checks w = first_given (header_list w) (accepted tt)

unfoldable pub size_checks : ℕ → ℕ → Outcome Unit
size_checks w given = first_given (size_list w given) (accepted tt)

unfoldable pub prologue_checks : (free : Bool) → ℕ → List ℕ → Outcome Unit
prologue_checks free w ws = first_given (prologue_list free w ws) (accepted tt)

unfoldable pub body_checks : ℕ → List ℕ → Outcome Unit
body_checks kind body = first_given (body_list kind body) (accepted tt)

-- of words as they are handed in, before the prologue is looked at
unfoldable pub sized_checks : List ℕ → Outcome Unit
sized_checks ws = first_given (sized_list (get_or ws 0 0) ws) (accepted tt)

-- of a packet that 49A governs, or does not
unfoldable pub pad_checks : (survey : Bool) → ℕ → List ℕ → Outcome Unit
pad_checks survey w ws = first_given (only_where (governed survey w) (pad_list w ws)) (accepted tt)

-- of the class's words, the trailer and the payload of a packet that it governs
unfoldable pub payload_checks : (w high low : ℕ) → Outcome Unit
payload_checks w high low = first_given ((PAD, pad_bad (classed w) (trailed w) high low (body_length w)) ∷ []) (accepted tt)

-- and of its prologue before
unfoldable pub governed_checks : ℕ → List ℕ → Outcome Unit
governed_checks w ws = first_given (prologue_list true w ws ++ pad_list w ws) (accepted tt)

-- of a packet whose header and size are right: what is left of reading
abbrev pub rest_list : (survey : Bool) → ℕ → List ℕ → Refusals
rest_list survey w ws = prologue_list (governed survey w) w ws ++ body_list (type_of w) (body_of w ws) ++ only_where (governed survey w) (pad_list w ws)

unfoldable pub rest_checks : (survey : Bool) → ℕ → List ℕ → Outcome Unit
rest_checks survey w ws = first_given (rest_list survey w ws) (accepted tt)
