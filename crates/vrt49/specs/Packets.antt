-- Packets, trailers and the fields of a body: the values of each answer in the order of include/vrt49.h, and a packet's parts as words.
use Rattle.std.specs.Prelude.{ℕ, ◌/◌, ◌%◌, ◌^◌, Bool, true, false, not, List, [], ◌∷◌, ◌++◌, ltb, length, get_or}
use Rattle.words.specs.Numbers.{TYPE, VALUE}
use Rattle.words.specs.Tests.{when, both, either}
use Rattle.words.specs.Outcome.{Outcome, accepted, Done}
use Rattle.words.specs.Refusals.{Refusals, first_given, only_where}
use Rattle.packet.specs.declared.Packet.{Packet}
use Rattle.packet.specs.declared.Survey.{Survey}
use Rattle.packet.specs.Read.{body_list}
use Rattle.packet_trailer.specs.declared.Trailer.{Trailer}
use Rattle.packet_write.specs.AsWords.{parts_in}
use Rattle.packet_write.specs.Write.{size_for, parts_fit, pad_fits, governs, pad_for, measure_list, pad_list, room_list, written_done}

-- ---- the values

-- type, C, T, TSM, TSI, TSF, count, size, identifier, OUI, information class, packet class, seconds, fraction high, fraction low, the body's place, the body's
-- words, trailer word
abbrev pub packet_values : Packet → List ℕ
packet_values p =
    p.parts.kind ∷ when p.parts.classed 1 ∷ when p.parts.trailed 1 ∷ when p.parts.tsm 1 ∷ p.parts.tsi ∷ p.parts.tsf ∷ p.parts.count
    ∷ p.size
    ∷ p.parts.identifier ∷ p.parts.oui ∷ p.parts.information ∷ p.parts.code ∷ p.parts.seconds
    ∷ p.parts.fraction / 2 ^ 32 ∷ p.parts.fraction % 2 ^ 32 ∷ p.place ∷ p.length ∷ p.parts.trailer ∷ []

-- those of a packet; then the pad count, the two words of the payload's format, and its items
abbrev pub survey_values : Survey → List ℕ
survey_values s = packet_values s.packet ++ (s.pad ∷ s.first ∷ s.second ∷ s.items ∷ [])

-- enables, indicators, E, associated count
abbrev pub trailer_values : Trailer → List ℕ
trailer_values t = t.enables ∷ t.indicators ∷ when t.e 1 ∷ t.associated ∷ []

-- 1, the place and the words of a field that was found; else three zeros
abbrev pub found_values : List ℕ → List ℕ
found_values [] = 0 ∷ 0 ∷ 0 ∷ []
found_values (at ∷ rest) = 1 ∷ at ∷ rest

-- ---- a packet's parts as fifteen words (`parts_in`)

-- a word for C, T or TSM that "does not fit its bits"
abbrev pub flags_over : List ℕ → Bool
flags_over ws = either (ltb 1 (get_or ws 1 0)) (either (ltb 1 (get_or ws 2 0)) (ltb 1 (get_or ws 3 0)))

-- what can be asked of the words before their parts are: TYPE, and VALUE of the flags
abbrev pub words_list : List ℕ → Refusals
words_list ws = (TYPE, ltb 5 (get_or ws 0 0)) ∷ (VALUE, flags_over ws) ∷ []

unfoldable pub words_checks : List ℕ → Outcome Unit
words_checks ws = first_given (words_list ws) (accepted tt)

-- "Write: TYPE, VALUE, SHORT, SIZE, TIME, INDICATOR, LAYOUT, FIELD, ROOM": as `write_list_by` has them, PAD of 49A among them, and VALUE of the flags too
abbrev pub write_words_list_by : (survey : Bool) → ℕ → List ℕ → List ℕ → ℕ → ℕ → Refusals
write_words_list_by survey pad ws body room at =
    let p = parts_in ws in
    let n = length body in
    ((TYPE, ltb 5 p.kind) ∷ (VALUE, either (flags_over ws) (not (both (pad_fits survey pad p) (parts_fit p)))) ∷ [])
    ++ measure_list p n ++ body_list p.kind body ++ only_where (governs survey p) (pad_list pad p body) ++ room_list room at (size_for p n)

-- what writing a packet whose parts are words answers and leaves
unfoldable pub write_words_by : (survey : Bool) → ℕ → List ℕ → List ℕ → List ℕ → ℕ → Outcome (Done ℕ (List ℕ))
write_words_by survey pad ws body out at =
    let p = parts_in ws in
    first_given (write_words_list_by survey pad ws body (length out) at) (accepted (written_done (pad_for survey pad p) p body out at))

-- plain 49.0: no pad count, and no PAD
abbrev pub write_words_list : List ℕ → List ℕ → ℕ → ℕ → Refusals
write_words_list ws body room at =
    let p = parts_in ws in
    let n = length body in
    ((TYPE, ltb 5 p.kind) ∷ (VALUE, either (flags_over ws) (not (parts_fit p))) ∷ [])
    ++ measure_list p n ++ body_list p.kind body ++ room_list room at (size_for p n)

abbrev pub write_words_of : List ℕ → List ℕ → List ℕ → ℕ → Outcome (Done ℕ (List ℕ))
write_words_of ws body out at = write_words_by false 0 ws body out at

-- 49A: the pad count is a sixteenth word
abbrev pub pad_in : List ℕ → ℕ
pad_in ws = get_or ws 15 0

abbrev pub write_survey_words_list : List ℕ → List ℕ → ℕ → ℕ → Refusals
write_survey_words_list ws body room at = write_words_list_by true (pad_in ws) ws body room at

abbrev pub write_survey_words_of : List ℕ → List ℕ → List ℕ → ℕ → Outcome (Done ℕ (List ℕ))
write_survey_words_of ws body out at = write_words_by true (pad_in ws) ws body out at
