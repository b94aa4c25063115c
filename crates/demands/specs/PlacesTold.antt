-- Where a packet is refused. Document 02, C-15: "Every reading refusal is to carry the word place from the packet's start, and FIELD also the field bit."
use Rattle.std.specs.Prelude.{◌≡◌, ℕ, ◌+◌, ◌≤◌, ◌<◌, true, false, List, [], ◌∷◌, length, get_or, ◌⊎◌}
use Rattle.words.specs.declared.Where.TheVariants.{Nowhere, Word, Field}
use Rattle.words.specs.Numbers.{EMPTY, TYPE, BITS, SHORT, CUT, CLASS, TIME, INDICATOR, LAYOUT, FIELD, ROOM, TABLE, PAGE}
use Rattle.words.specs.Tests.{among}
use Rattle.words.specs.Outcome.{refused}
use Rattle.words.specs.Told.{RefusalTold, refusal, place_word}
use Rattle.fields.specs.Broken.{Highest}
use Rattle.packet.specs.Header.{size_of}
use Rattle.packet.specs.Parts.{body_at, body_of}
use Rattle.packet.specs.Told.{of_header, read_told}
use Rattle.demands.specs.Program.{Program}
use Rattle.demands.specs.Samples.{Sample, row, Hold, packet_says}

-- a refusal r of the words ws: "the header for types, bits, sizes and cuts", and EMPTY's place is 0: but for EMPTY that word was handed in; of any other number
-- that has a place it is one of the packet's words, all of which were handed in
pub record WordInside (ws : List ℕ) (r : RefusalTold) : Type 0 where
  pub header : of_header r.number ≡ true → (r.place ≡ Word 0) × ((r.number ≡ EMPTY → ⊥) → 0 < length ws)
  pub inside : of_header r.number ≡ false → (r.number ≡ TABLE → ⊥)
      → (place_word r.place < size_of (get_or ws 0 0)) × (size_of (get_or ws 0 0) ≤ length ws)

-- "the first word of the highest broken field for FIELD": a field b is told, one of 30 to 8, which is carried and breaks its rule, those above it obey, and it
-- stands so many words behind the body's first
pub record FieldTold (ws : List ℕ) (r : RefusalTold) : Type 0 where
  pub bit : ℕ
  pub at : ℕ
  pub place : r.place ≡ Field (body_at (get_or ws 0 0) + at) bit
  pub least : 8 ≤ bit
  pub most : bit ≤ 30
  pub highest : Highest (body_of (get_or ws 0 0) ws) at bit

-- some packets that are refused, and where
unfoldable pub refused_at : List {1} Sample
refused_at =
    -- no words; type 6; a reserved bit; too short; cut
    row (packet_says (read_told [])) (refused (refusal EMPTY (Word 0)))
    ∷ row (packet_says (read_told (0x60000001 ∷ []))) (refused (refusal TYPE (Word 0)))
    ∷ row (packet_says (read_told (0x13000002 ∷ 7 ∷ []))) (refused (refusal BITS (Word 0)))
    ∷ row (packet_says (read_told (0x10000001 ∷ 7 ∷ []))) (refused (refusal SHORT (Word 0)))
    ∷ row (packet_says (read_told (0x10000003 ∷ 7 ∷ []))) (refused (refusal CUT (Word 0)))
    -- a class with its top bits set, behind an identifier and without one
    ∷ row (packet_says (read_told (0x18000004 ∷ 7 ∷ 0x01000000 ∷ 0 ∷ []))) (refused (refusal CLASS (Word 2)))
    ∷ row (packet_says (read_told (0x08000003 ∷ 0x01000000 ∷ 0 ∷ []))) (refused (refusal CLASS (Word 1)))
    -- a fraction of 10^12, with seconds and without them
    ∷ row (packet_says (read_told (0x10600005 ∷ 7 ∷ 5 ∷ 232 ∷ 3567587328 ∷ []))) (refused (refusal TIME (Word 3)))
    ∷ row (packet_says (read_told (0x10200004 ∷ 7 ∷ 232 ∷ 3567587328 ∷ []))) (refused (refusal TIME (Word 2)))
    -- an indicator with bit 0; fields 29 and 21 in one word
    ∷ row (packet_says (read_told (0x40000003 ∷ 7 ∷ 0x00000001 ∷ []))) (refused (refusal INDICATOR (Word 2)))
    ∷ row (packet_says (read_told (0x40000004 ∷ 7 ∷ 0x20200000 ∷ 0 ∷ []))) (refused (refusal LAYOUT (Word 2)))
    -- 29 and 21 are both negative: 29 is told, at word 3; 21 alone, at word 5; device (17) by its second word, at its first
    ∷ row (packet_says (read_told (0x40000007 ∷ 7 ∷ 0x20200000 ∷ 0x80000000 ∷ 0 ∷ 0x80000000 ∷ 0 ∷ []))) (refused (refusal FIELD (Field 3 29)))
    ∷ row (packet_says (read_told (0x40000007 ∷ 7 ∷ 0x20200000 ∷ 0 ∷ 0 ∷ 0x80000000 ∷ 0 ∷ []))) (refused (refusal FIELD (Field 5 21)))
    ∷ row (packet_says (read_told (0x40000006 ∷ 7 ∷ 0x40020000 ∷ 1 ∷ 0 ∷ 0x00010000 ∷ []))) (refused (refusal FIELD (Field 4 17)))
    -- field 8 behind field 9 of three words: its first word, with bit 25
    ∷ row (packet_says (read_told (0x40000008 ∷ 7 ∷ 0x00000300 ∷ 0 ∷ 1 ∷ 0 ∷ 0x02000000 ∷ 0 ∷ []))) (refused (refusal FIELD (Field 6 8)))
    ∷ []

-- of reading, plainly and where 49A is chosen, of playing, and of growing, whose PAGE and ROOM are of the index and have no place
pub record PlacesTold (P : Program) : Type 0 where
  pub samples : Hold refused_at
  pub read : (ws : List ℕ) (r : RefusalTold) → P.read ws ≡ refused r → WordInside ws r
  pub read_survey : (ws : List ℕ) (r : RefusalTold) → P.read_survey ws ≡ refused r → WordInside ws r
  pub play : (t ws : List ℕ) (r : RefusalTold) → P.play t ws ≡ refused r → WordInside ws r
  pub grow : (t ws ix : List ℕ) (r : RefusalTold) → P.grow t ws ix ≡ refused r
      → ((r.place ≡ Nowhere) × (among r.number (TABLE ∷ PAGE ∷ ROOM ∷ []) ≡ true)) ⊎ WordInside ws r
  pub read_field : (ws : List ℕ) (r : RefusalTold) → P.read ws ≡ refused r → r.number ≡ FIELD → FieldTold ws r
  pub survey_field : (ws : List ℕ) (r : RefusalTold) → P.read_survey ws ≡ refused r → r.number ≡ FIELD → FieldTold ws r
  pub play_field : (t ws : List ℕ) (r : RefusalTold) → P.play t ws ≡ refused r → r.number ≡ FIELD → FieldTold ws r
  pub grow_field : (t ws ix : List ℕ) (r : RefusalTold) → P.grow t ws ix ≡ refused r → r.number ≡ FIELD → FieldTold ws r
