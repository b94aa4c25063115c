-- Document 01, 'The packet': "Order: header; stream identifier (types 1, 3, 4, 5); class (two words, if C); integer seconds (if TSI is not 0);
-- fraction (two words, high first, if TSF is not 0); body; trailer (if T)." w is the header word; a part that is absent reads as zero.
use Rattle.std.specs.Prelude.{ℕ, ◌+◌, ◌-◌, Bool, not, List, [], ◌∷◌, eqb, get_or}
use Rattle.words.specs.Tests.{when, among}
use Rattle.words.specs.Word.{bits, high_first}
use Rattle.words.specs.Part.{part}
use Rattle.packet.specs.Header.{type_of, classed, trailed, tsm_of, tsi_of, tsf_of, count_of, size_of}
use Rattle.packet.specs.declared.Parts.{Parts}
use Rattle.packet.specs.declared.Packet.{Packet}

-- ---- which parts are there

-- a stream identifier: types 1, 3, 4, 5
unfoldable pub streamed : ℕ → Bool
streamed w = among (type_of w) (1 ∷ 3 ∷ 4 ∷ 5 ∷ [])

unfoldable pub has_seconds : ℕ → Bool
has_seconds w = not (eqb (tsi_of w) 0)

unfoldable pub has_fraction : ℕ → Bool
has_fraction w = not (eqb (tsf_of w) 0)

-- ---- where each begins

unfoldable pub class_at : ℕ → ℕ
class_at w = 1 + when (streamed w) 1

unfoldable pub seconds_at : ℕ → ℕ
seconds_at w = class_at w + when (classed w) 2

unfoldable pub fraction_at : ℕ → ℕ
fraction_at w = seconds_at w + when (has_seconds w) 1

unfoldable pub body_at : ℕ → ℕ
body_at w = fraction_at w + when (has_fraction w) 2

-- the words of the required parts: "(the indicator word is one, for type 4)"
unfoldable pub required_of : ℕ → ℕ
required_of w = body_at w + when (trailed w) 1 + when (eqb (type_of w) 4) 1

-- the words of the body: what the size leaves beside the prologue and the trailer
unfoldable pub body_length : ℕ → ℕ
body_length w = size_of w - (body_at w + when (trailed w) 1)

-- ---- what each says, of a packet whose words are ws

-- the word at a place, of a part that may be absent
unfoldable pub word_if : Bool → ℕ → List ℕ → ℕ
word_if present at ws = when present (get_or ws at 0)

-- the class's first and second word
unfoldable pub class_high : ℕ → List ℕ → ℕ
class_high w ws = word_if (classed w) (class_at w) ws

unfoldable pub class_low : ℕ → List ℕ → ℕ
class_low w ws = word_if (classed w) (class_at w + 1) ws

unfoldable pub fraction_of : ℕ → List ℕ → ℕ
fraction_of w ws = high_first (word_if (has_fraction w) (fraction_at w) ws) (word_if (has_fraction w) (fraction_at w + 1) ws)

-- "The class's first word has eight zero bits (ours), then the OUI; the second has information and packet class."
unfoldable pub parts_of : ℕ → List ℕ → Parts
parts_of w ws = record {
  kind = type_of w;
  classed = classed w;
  trailed = trailed w;
  tsm = tsm_of w;
  tsi = tsi_of w;
  tsf = tsf_of w;
  count = count_of w;
  identifier = word_if (streamed w) 1 ws;
  oui = bits 23 0 (class_high w ws);
  information = bits 31 16 (class_low w ws);
  code = bits 15 0 (class_low w ws);
  seconds = word_if (has_seconds w) (seconds_at w) ws;
  fraction = fraction_of w ws;
  trailer = word_if (trailed w) (size_of w - 1) ws;
}

-- the words of the body
unfoldable pub body_of : ℕ → List ℕ → List ℕ
body_of w ws = part (body_at w) (body_length w) ws

-- all that reading gives: the parts, the size, and where the body stands
unfoldable pub packet_of : ℕ → List ℕ → Packet
packet_of w ws = record { parts = parts_of w ws; size = size_of w; place = body_at w; length = body_length w }
