-- 49A packets, document 02, C-13: "bits 31-27 of the class's first word are a pad count, so n follows from the payload"; "An accepted 49A packet has one n";
-- "The choice governs type 1 only; other types, packets of no declared stream .. stay plain."
use Rattle.std.specs.Prelude.{◌≡◌, ℕ, ◌+◌, ◌*◌, ◌≤◌, List, [], ◌∷◌, length, get_or, ◌↔◌}
use Rattle.words.specs.Numbers.{STREAM, CLASS, PAD}
use Rattle.words.specs.Part.{part}
use Rattle.words.specs.declared.Where.TheVariants.{Word}
use Rattle.words.specs.Tests.{when}
use Rattle.words.specs.Outcome.{refused, accepted, onward, said_of}
use Rattle.words.specs.Told.{Told, refusal}
use Rattle.fields.specs.Format.{real_complex, item_code, item_size}
use Rattle.packet.specs.declared.Survey.{Survey}
use Rattle.packet.specs.Parts.{streamed, packet_of}
use Rattle.packet.specs.Told.{read_told, survey_told}
use Rattle.packet_survey.specs.Payload.{format_first, format_second}
use Rattle.payload_unpack.specs.Unpack.{Buffers}
use Rattle.demands.specs.Listing.{Listing, streams_in, place_in}
use Rattle.demands.specs.Program.{Program}
use Rattle.demands.specs.Right.{Right}
use Rattle.demands.specs.Samples.{Sample, row}

-- ---- an accepted 49A packet, of type 1

-- what was read of the words ws
pub record OneN (P : Program) (ws : List ℕ) (s : Survey) : Type 0 where
  -- n items and the padding are the payload, and no other number of items is
  pub one : (m : ℕ) → (m * item_size s.first + s.pad ≡ 32 * s.packet.length) ↔ (m ≡ s.items)
  -- "32 * 65,530"
  pub most : s.items ≤ 2096960
  -- unpacking accepts this format and n, with exactly the body's words
  pub needs : P.words_needed s.first s.second s.items ≡ accepted s.packet.length
  pub unpacks : (b : Buffers) → s.items ≤ length b.items → s.items ≤ length b.events → s.items ≤ length b.channels
      → said_of (P.unpack s.first s.second s.items (part s.packet.place s.packet.length ws) b) ≡ accepted s.items

-- ---- packets that stay plain

-- of types other than 1, a reading by 49A is a plain one
abbrev pub OthersPlain : Program → Type 0
OthersPlain P = (ws : List ℕ) → ((packet_of (get_or ws 0 0) ws).parts.kind ≡ 1 → ⊥)
    → P.read_survey ws ≡ onward (P.read ws) (λ p. accepted (record { packet = p; pad = 0; first = 0; second = 0; items = 0 }))

-- of an identifier that is not declared: what plain reading refuses is refused, and the rest is STREAM, at the identifier or at the header. So a pad count
-- there is CLASS
abbrev pub UnlistedPlain : Program → Type 0
UnlistedPlain P = (list : Listing) (packets : List (List ℕ)) (t : List ℕ) → Right list packets t
    → (ws : List ℕ) → streams_in list ≤ place_in list (packet_of (get_or ws 0 0) ws).parts.identifier
    → P.play t ws ≡ onward (P.read ws) (λ p. refused (refusal STREAM (Word (when (streamed (get_or ws 0 0)) 1))))

-- ---- samples

-- what a reading by 49A says: pad, the format's two words, n
abbrev pub survey_says : Told Survey → Told (List ℕ)
survey_says (refused r) = refused r
survey_says (accepted s) = accepted (s.pad ∷ s.first ∷ s.second ∷ s.items ∷ [])

-- the item's code and bits in the format of a data type
abbrev pub format_says : ℕ → List ℕ
format_says low = real_complex (format_first low) ∷ item_code (format_first low) ∷ item_size (format_first low) ∷ format_second low ∷ []

unfoldable pub survey_samples : List {1} Sample
survey_samples =
    -- four complex 16-bit signed items in two words
    row (survey_says (survey_told (0x1C000007 ∷ 7 ∷ 0x00FFFFFA ∷ 0x00130000 ∷ 0xABCDEF12 ∷ 0x30000000 ∷ 0 ∷ []))) (accepted (0 ∷ 0x200003CF ∷ 0 ∷ 4 ∷ []))
    -- a vector of three unsigned bytes, and eight bits of padding; plain, the pad count is CLASS, at the class's first word
    ∷ row (survey_says (survey_told (0x1C000006 ∷ 7 ∷ 0x40FFFFFA ∷ 0x000A0002 ∷ 0x01020300 ∷ 0 ∷ []))) (accepted (8 ∷ 0x100001C7 ∷ 2 ∷ 3 ∷ []))
    ∷ row (onward (read_told (0x1C000006 ∷ 7 ∷ 0x40FFFFFA ∷ 0x000A0002 ∷ 0x01020300 ∷ 0 ∷ [])) (λ p. accepted p.size)) (refused (refusal CLASS (Word 2)))
    -- the same without the padding is no whole vector
    ∷ row (survey_says (survey_told (0x1C000006 ∷ 7 ∷ 0x00FFFFFA ∷ 0x000A0002 ∷ 0x01020300 ∷ 0 ∷ []))) (refused (refusal PAD (Word 2)))
    -- Table 4-5, type by type: real or complex, the format's item code, the item's bits, the vector size minus one
    ∷ row (format_says 0x00010000) (0 ∷ 0 ∷ 4 ∷ 0 ∷ [])
    ∷ row (format_says 0x00020000) (0 ∷ 0 ∷ 8 ∷ 0 ∷ [])
    ∷ row (format_says 0x00030000) (0 ∷ 0 ∷ 16 ∷ 0 ∷ [])
    ∷ row (format_says 0x00040000) (0 ∷ 0 ∷ 32 ∷ 0 ∷ [])
    ∷ row (format_says 0x00050000) (0 ∷ 0 ∷ 64 ∷ 0 ∷ [])
    ∷ row (format_says 0x00060000) (0 ∷ 14 ∷ 32 ∷ 0 ∷ [])
    ∷ row (format_says 0x00070000) (0 ∷ 15 ∷ 64 ∷ 0 ∷ [])
    ∷ row (format_says 0x00180001) (1 ∷ 16 ∷ 1 ∷ 1 ∷ [])
    ∷ row (format_says 0x00190001) (1 ∷ 16 ∷ 4 ∷ 1 ∷ [])
    ∷ row (format_says 0x001A0001) (1 ∷ 16 ∷ 8 ∷ 1 ∷ [])
    ∷ row (format_says 0x001B0001) (1 ∷ 16 ∷ 16 ∷ 1 ∷ [])
    ∷ row (format_says 0x001C0001) (1 ∷ 16 ∷ 32 ∷ 1 ∷ [])
    ∷ row (format_says 0x001D0001) (1 ∷ 16 ∷ 64 ∷ 1 ∷ [])
    ∷ []
