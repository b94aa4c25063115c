-- What writing a packet does. Document 01, 'Numbers given back': "Write: TYPE, VALUE, SHORT, SIZE, TIME, INDICATOR, LAYOUT, FIELD, ROOM";
-- "A packet, its body given as words, is written into a part of a longer buffer that starts at the caller's chosen word." Document 02, C-13: a packet is
-- written as plain 49.0, or as 49A with a pad count.
use Rattle.std.specs.Prelude.{ℕ, ◌+◌, ◌/◌, ◌%◌, ◌^◌, Bool, true, false, not, List, [], ◌∷◌, ◌++◌, eqb, ltb, length, take, drop}
use Rattle.words.specs.Numbers.{TYPE, VALUE, SHORT, SIZE, TIME, PAD, ROOM}
use Rattle.words.specs.Tests.{pick, when, both}
use Rattle.words.specs.Word.{join}
use Rattle.words.specs.Outcome.{Outcome, accepted, Done}
use Rattle.words.specs.Refusals.{Refusals, first_given, only_where}
use Rattle.packet_survey.specs.Payload.{pad_bad}
use Rattle.packet.specs.Header.{classed, trailed}
use Rattle.packet.specs.Parts.{streamed, has_seconds, has_fraction, body_at, required_of}
use Rattle.packet.specs.Read.{time_over, body_list}
use Rattle.packet.specs.declared.Parts.{Parts}

-- ---- the words of a packet

-- C, T and TSM as bits of the header
abbrev pub flag_bit : Bool → ℕ
flag_bit t = when t 1

-- the header's fields from the right: size 15-0, count 19-16, TSF 21-20, TSI 23-22, TSM 24, 25, T 26, C 27, type 31-28
abbrev pub header_widths : List ℕ
header_widths = 16 ∷ 4 ∷ 2 ∷ 2 ∷ 1 ∷ 1 ∷ 1 ∷ 1 ∷ 4 ∷ []

unfoldable pub header_word : Parts → ℕ → ℕ
header_word p size =
    join header_widths (size ∷ p.count ∷ p.tsf ∷ p.tsi ∷ flag_bit p.tsm ∷ 0 ∷ flag_bit p.trailed ∷ flag_bit p.classed ∷ p.kind ∷ [])

-- the words of a packet whose body has n: which parts are there is what the header says, whatever size it has
unfoldable pub size_for : Parts → ℕ → ℕ
size_for p n = body_at (header_word p 0) + n + when (trailed (header_word p 0)) 1

-- words that are there or not
abbrev pub given : Bool → List ℕ → List ℕ
given true ws = ws
given false ws = []

-- the first: "eight zero bits (ours), then the OUI"; of 49A its "bits 31-27 .. are a pad count"
unfoldable pub class_first : ℕ → ℕ → ℕ
class_first pad oui = join (24 ∷ 3 ∷ 5 ∷ []) (oui ∷ 0 ∷ pad ∷ [])

-- "the second has information and packet class"
unfoldable pub class_word : ℕ → ℕ → ℕ
class_word information code = join (16 ∷ 16 ∷ []) (code ∷ information ∷ [])

-- "header; stream identifier (types 1, 3, 4, 5)"
unfoldable pub leading_words : ℕ → Parts → List ℕ
leading_words w p = (w ∷ []) ++ given (streamed w) (p.identifier ∷ [])

-- "class (two words, if C)"
unfoldable pub class_words : (pad : ℕ) → ℕ → Parts → List ℕ
class_words pad w p = given (classed w) (class_first pad p.oui ∷ class_word p.information p.code ∷ [])

-- "integer seconds (if TSI is not 0); fraction (two words, high first, if TSF is not 0)"
unfoldable pub time_words : ℕ → Parts → List ℕ
time_words w p = given (has_seconds w) (p.seconds ∷ []) ++ given (has_fraction w) (p.fraction / 2 ^ 32 ∷ p.fraction % 2 ^ 32 ∷ [])

-- what stands before the body
unfoldable pub prologue_words : (pad : ℕ) → ℕ → Parts → List ℕ
prologue_words pad w p = leading_words w p ++ class_words pad w p ++ time_words w p

unfoldable pub trailer_words : ℕ → Parts → List ℕ
trailer_words w p = given (trailed w) (p.trailer ∷ [])

-- "body; trailer (if T)": the whole packet
unfoldable pub packet_words : (pad : ℕ) → Parts → List ℕ → List ℕ
packet_words pad p body =
    let w = header_word p (size_for p (length body)) in
    prologue_words pad w p ++ body ++ trailer_words w p

-- "absent parts are ignored and read back as zero": the parts as they are read back, under the header word w
unfoldable pub plain_parts : ℕ → Parts → Parts
plain_parts w p = record {
  kind = p.kind;
  classed = p.classed;
  trailed = p.trailed;
  tsm = p.tsm;
  tsi = p.tsi;
  tsf = p.tsf;
  count = p.count;
  identifier = when (streamed w) p.identifier;
  oui = when (classed w) p.oui;
  information = when (classed w) p.information;
  code = when (classed w) p.code;
  seconds = when (has_seconds w) p.seconds;
  fraction = when (has_fraction w) p.fraction;
  trailer = when (trailed w) p.trailer;
}

-- ---- VALUE: "a number to be written .. does not fit its bits or type"; "absent parts are ignored"

-- TSI and TSF have two bits, the count four
unfoldable pub codes_fit : ℕ → ℕ → ℕ → Bool
codes_fit tsi tsf count = both (ltb tsi 4) (both (ltb tsf 4) (ltb count 16))

-- "T asked of types 4-5, or TSM of 0-3, is VALUE"
unfoldable pub flags_fit : ℕ → Bool → Bool → Bool
flags_fit kind trailed tsm = pick (ltb kind 4) (not tsm) (not trailed)

-- the OUI has 24 bits, information and packet class 16 each
unfoldable pub class_fits : Bool → ℕ → ℕ → ℕ → Bool
class_fits classed oui information code =
    pick classed (both (ltb oui (2 ^ 24)) (both (ltb information (2 ^ 16)) (ltb code (2 ^ 16)))) true

unfoldable pub parts_fit : Parts → Bool
parts_fit p =
    both (codes_fit p.tsi p.tsf p.count)
    (both (flags_fit p.kind p.trailed p.tsm)
    (class_fits p.classed p.oui p.information p.code))

-- ---- 49A

-- "The choice governs type 1 only": whether 49A is chosen and governs the packet
abbrev pub governs : (survey : Bool) → Parts → Bool
governs survey p = both survey (eqb p.kind 1)

-- the pad count that is written: a packet that 49A does not govern has none
abbrev pub pad_for : (survey : Bool) → ℕ → Parts → ℕ
pad_for survey pad p = when (governs survey p) pad

-- a pad count has five bits; without a class it is an absent part
unfoldable pub pad_fits : (survey : Bool) → ℕ → Parts → Bool
pad_fits survey pad p = pick (both (governs survey p) p.classed) (ltb pad 32) true

-- ---- the refusals, in their order

-- "type above 5"; "a number to be written .. does not fit its bits or type"
abbrev pub parts_list : (survey : Bool) → ℕ → Parts → Refusals
parts_list survey pad p = (TYPE, ltb 5 p.kind) ∷ (VALUE, not (both (pad_fits survey pad p) (parts_fit p))) ∷ []

-- of a body of n words: "size below the required parts"; "a packet to be written .. exceeds 65,535 words"; "TSF is 2 and the fraction is 10^12 or more"
abbrev pub measure_list : Parts → ℕ → Refusals
measure_list p n =
    (SHORT, ltb (size_for p n) (required_of (header_word p 0))) ∷ (SIZE, ltb 65535 (size_for p n)) ∷ (TIME, time_over p.tsf p.fraction) ∷ []

-- PAD, of the parts and the body
abbrev pub pad_list : ℕ → Parts → List ℕ → Refusals
pad_list pad p body =
    (PAD, pad_bad p.classed p.trailed (class_first pad p.oui) (class_word p.information p.code) (length body)) ∷ []

-- "A start past the end is ROOM"
abbrev pub room_list : ℕ → ℕ → ℕ → Refusals
room_list room at size = (ROOM, ltb room (at + size)) ∷ []

-- all of them; INDICATOR, LAYOUT and FIELD are those of reading, and PAD comes after them
abbrev pub write_list_by : (survey : Bool) → ℕ → Parts → List ℕ → ℕ → ℕ → Refusals
write_list_by survey pad p body room at =
    let n = length body in
    parts_list survey pad p ++ measure_list p n ++ body_list p.kind body ++ only_where (governs survey p) (pad_list pad p body)
    ++ room_list room at (size_for p n)

-- ---- what writing answers and leaves: the number of words written, and the buffer with the packet at its place

abbrev pub written_done : (pad : ℕ) → Parts → List ℕ → List ℕ → ℕ → Done ℕ (List ℕ)
written_done pad p body out at =
    let size = size_for p (length body) in
    record { says = size; leaves = take at out ++ packet_words pad p body ++ drop (at + size) out }

unfoldable pub write_by : (survey : Bool) → ℕ → Parts → List ℕ → List ℕ → ℕ → Outcome (Done ℕ (List ℕ))
write_by survey pad p body out at =
    first_given (write_list_by survey pad p body (length out) at) (accepted (written_done (pad_for survey pad p) p body out at))

-- plain 49.0: no pad count, and no PAD
abbrev pub write_list : Parts → List ℕ → ℕ → ℕ → Refusals
write_list p body room at =
    let n = length body in
    ((TYPE, ltb 5 p.kind) ∷ (VALUE, not (parts_fit p)) ∷ []) ++ measure_list p n ++ body_list p.kind body ++ room_list room at (size_for p n)

abbrev pub write_of : Parts → List ℕ → List ℕ → ℕ → Outcome (Done ℕ (List ℕ))
write_of p body out at = write_by false 0 p body out at

-- 49A, with a pad count
abbrev pub write_survey_list : ℕ → Parts → List ℕ → ℕ → ℕ → Refusals
write_survey_list pad p body room at = write_list_by true pad p body room at

abbrev pub write_survey_of : ℕ → Parts → List ℕ → List ℕ → ℕ → Outcome (Done ℕ (List ℕ))
write_survey_of pad p body out at = write_by true pad p body out at
