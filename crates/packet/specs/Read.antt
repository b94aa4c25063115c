-- Document 01, 'Numbers given back': "The first that applies is given, in these orders. Read: 1 to 10 as listed; words beyond the size are
-- ignored." Document 02, C-13: packets are read as plain 49.0 or as 49A. w is the header word, ws the words that were handed in.
use Rattle.std.specs.Prelude.{ℕ, ◌^◌, Bool, false, not, List, [], ◌∷◌, ◌++◌, eqb, ltb, leb, length, get_or}
use Rattle.words.specs.Numbers.{EMPTY, TYPE, BITS, SHORT, CUT, CLASS, TIME, PAD}
use Rattle.words.specs.Tests.{both}
use Rattle.words.specs.Word.{bits}
use Rattle.words.specs.Outcome.{Outcome, accepted}
use Rattle.words.specs.Refusals.{Refusals, first_given, only_where}
use Rattle.fields.specs.Layout.{context_list}
use Rattle.packet_survey.specs.Payload.{pad_bad}
use Rattle.packet.specs.Header.{type_of, classed, trailed, reserved_of, tsf_of, size_of}
use Rattle.packet.specs.Parts.{required_of, body_length, class_high, class_low, fraction_of, body_of, packet_of}
use Rattle.packet.specs.declared.Packet.{Packet}

-- "type above 5"; "reserved header bit set"
abbrev pub header_list : ℕ → Refusals
header_list w = (TYPE, ltb 5 (type_of w)) ∷ (BITS, not (eqb (reserved_of w) 0)) ∷ []

-- "size below the required parts"; "size exceeds the words given"
abbrev pub size_list : ℕ → ℕ → Refusals
size_list w given = (SHORT, ltb (size_of w) (required_of w)) ∷ (CUT, ltb given (size_of w)) ∷ []

-- "TSF is 2 and the fraction is 10^12 or more"
unfoldable pub time_over : ℕ → ℕ → Bool
time_over tsf fraction = both (eqb tsf 2) (leb (10 ^ 12) fraction)

-- "top eight class bits not zero", of the class's first word, unless those bits are free
unfoldable pub class_bad : Bool → ℕ → Bool
class_bad free high = both (not free) (not (eqb (bits 31 24 high) 0))

-- what the prologue is refused for; whether the top bits of the class's first word are free is its reader's to say
abbrev pub prologue_list : (free : Bool) → ℕ → List ℕ → Refusals
prologue_list free w ws = (CLASS, class_bad free (class_high w ws)) ∷ (TIME, time_over (tsf_of w) (fraction_of w ws)) ∷ []

-- of type 4, INDICATOR, LAYOUT and FIELD of the body
abbrev pub body_list : ℕ → List ℕ → Refusals
body_list kind body = only_where (eqb kind 4) (context_list body)

-- those that look at the header and the number of words alone, and those that look at no body
abbrev pub sized_list : ℕ → List ℕ → Refusals
sized_list w ws = ((EMPTY, eqb (length ws) 0) ∷ []) ++ header_list w ++ size_list w (length ws)

abbrev pub front_list : (free : Bool) → ℕ → List ℕ → Refusals
front_list free w ws = sized_list w ws ++ prologue_list free w ws

-- ---- 49A

-- "The choice governs type 1 only": whether 49A is chosen and governs the packet
abbrev pub governed : (survey : Bool) → ℕ → Bool
governed survey w = both survey (eqb (type_of w) 1)

-- what a packet that 49A governs is refused for
abbrev pub pad_list : ℕ → List ℕ → Refusals
pad_list w ws = (PAD, pad_bad (classed w) (trailed w) (class_high w ws) (class_low w ws) (body_length w)) ∷ []

-- ---- what reading answers, where 49A is chosen or is not

-- "CLASS is not given for 49A; 20 PAD, after FIELD"
abbrev pub list_by : (survey : Bool) → ℕ → List ℕ → Refusals
list_by survey w ws = front_list (governed survey w) w ws ++ body_list (type_of w) (body_of w ws) ++ only_where (governed survey w) (pad_list w ws)

unfoldable pub read_by : (survey : Bool) → List ℕ → Outcome Packet
read_by survey ws = first_given (list_by survey (get_or ws 0 0) ws) (accepted (packet_of (get_or ws 0 0) ws))

-- plain 49.0: "1 to 10 as listed"
abbrev pub read_list : ℕ → List ℕ → Refusals
read_list w ws = front_list false w ws ++ body_list (type_of w) (body_of w ws)

abbrev pub read_of : List ℕ → Outcome Packet
read_of ws = read_by false ws
