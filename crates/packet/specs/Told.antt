-- Document 02, C-15: "Every reading refusal is to carry the word place from the packet's start, and FIELD also the field bit." Which number is given stays
-- as it is; where follows from the number and the words. w is the header word, ws the words that were handed in.
use Rattle.std.specs.Prelude.{ℕ, Bool, List, [], ◌∷◌, eqb, get_or}
use Rattle.words.specs.Numbers.{EMPTY, TYPE, BITS, SHORT, CUT, CLASS, TIME, INDICATOR, LAYOUT, FIELD, STREAM, PAD}
use Rattle.words.specs.declared.Where.{Where}
use Rattle.words.specs.declared.Where.TheVariants.{Nowhere, Word}
use Rattle.words.specs.Tests.{pick, when, among}
use Rattle.words.specs.Told.{Told, told, place_further}
use Rattle.fields.specs.Broken.{broken_of}
use Rattle.packet.specs.Header.{classed}
use Rattle.packet.specs.Parts.{streamed, class_at, fraction_at, body_at, body_of}
use Rattle.packet.specs.declared.Packet.{Packet}
use Rattle.packet.specs.declared.Survey.{Survey}
use Rattle.packet.specs.Read.{read_of}
use Rattle.packet.specs.Survey.{read_survey_of}

-- the numbers that are told at the header: "types, bits, sizes and cuts", and EMPTY, which "has place 0"
abbrev pub of_header : ℕ → Bool
of_header n = among n (EMPTY ∷ TYPE ∷ BITS ∷ SHORT ∷ CUT ∷ [])

-- "The place is the header for types, bits, sizes and cuts; the offending word for CLASS and INDICATOR; the fraction's first word for TIME; the indicator for
-- LAYOUT; the first word of the highest broken field for FIELD; the class's first word, or the header if none, for PAD; the identifier, or the header if none,
-- for STREAM. EMPTY has place 0, TABLE none." The word of CLASS is the class's first, whose bits are not zero; that of INDICATOR, the indicator, is the body's
-- first; an identifier stands next to the header.
unfoldable pub where_of : List ℕ → ℕ → Where
where_of ws n =
    let w = get_or ws 0 0 in
    pick (of_header n) (Word 0)
    (pick (eqb n CLASS) (Word (class_at w))
    (pick (eqb n TIME) (Word (fraction_at w))
    (pick (eqb n INDICATOR) (Word (body_at w))
    (pick (eqb n LAYOUT) (Word (body_at w))
    (pick (eqb n FIELD) (place_further (body_at w) (broken_of (body_of w ws)))
    (pick (eqb n PAD) (Word (when (classed w) (class_at w)))
    (pick (eqb n STREAM) (Word (when (streamed w) 1))
    Nowhere)))))))

-- what reading answers, plainly and where 49A is chosen, with the place of each refusal
unfoldable pub read_told : List ℕ → Told Packet
read_told ws = told (where_of ws) (read_of ws)

unfoldable pub survey_told : List ℕ → Told Survey
survey_told ws = told (where_of ws) (read_survey_of ws)
