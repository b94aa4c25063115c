-- Document 01, 'Samples from the bench': the cases marked P, as one table. A row says what the definitions give and what the bench wants; `Hold` is the one
-- statement over all rows, proved in proofs/Samples.antt.
use Rattle.std.specs.Prelude.{◌≡◌, ℕ, true, List, [], ◌∷◌, pos, negsuc}
use Rattle.std.specs.Float.{fin}
use Rattle.words.specs.Numbers.{SHORT, CUT}
use Rattle.words.specs.declared.Where.TheVariants.{Word}
use Rattle.words.specs.Outcome.{Outcome, refused, accepted, Done}
use Rattle.words.specs.Told.{Told, refusal}
use Rattle.fields.specs.Format.{real_complex, item_code, packing_size, item_size}
use Rattle.fields.specs.Layout.{carried, span_of}
use Rattle.packet.specs.declared.Packet.{Packet}
use Rattle.packet.specs.Told.{read_told}
use Rattle.packet_write.specs.Write.{flag_bit}
use Rattle.payload_format.specs.Format.{link_efficient}
use Rattle.payload_pack.specs.Pack.{pack_of}
use Rattle.payload_unpack.specs.Unpack.{Buffers, buffers, unpack_of}
use Rattle.payload_format.specs.Signs.{signed_of}
use Rattle.panel.specs.Readings.{frequency, level, temperature, shown_of}
use Rattle.demands.specs.Trace.{missed}

-- a row, of any type: what is got, and what is wanted
pub record Sample : Type 1 where
  pub Of : Type 0
  pub got : Of
  pub want : Of

abbrev pub row : {A : Type 0} → A → A → Sample
row {A} got want = record { Of = A; got = got; want = want }

-- each row has what is wanted
abbrev pub Hold : List {1} Sample → Type 0
Hold [] = Unit
Hold (s ∷ rows) = (s.got ≡ s.want) × Hold rows

-- what reading says of a packet: type, trailer (1 if there), TSI, TSF, count, size, and the words of its body
abbrev pub packet_says : Told Packet → Told (List ℕ)
packet_says (refused r) = refused r
packet_says (accepted p) =
    accepted (p.parts.kind ∷ flag_bit p.parts.trailed ∷ p.parts.tsi ∷ p.parts.tsf ∷ p.parts.count ∷ p.size ∷ p.length ∷ [])

-- three items, or one, with no tags or with those given; and what is left of a buffer of two words
abbrev pub wrote : ℕ → List ℕ → Outcome (Done ℕ (List ℕ))
wrote n ws = accepted (record { says = n; leaves = ws })

abbrev pub gave : ℕ → List ℕ → List ℕ → List ℕ → Outcome (Done ℕ Buffers)
gave n items events channels = accepted (record { says = n; leaves = buffers items events channels })

abbrev pub none3 : List ℕ
none3 = 0 ∷ 0 ∷ 0 ∷ []

unfoldable pub bench : List {1} Sample
bench =
    -- "header 0x4065000B: type 4, TSI 1, TSF 2, count 5, size 11. Indicator 0x21200000 then asks 5 words."
    row (packet_says (read_told (0x4065000B ∷ 7 ∷ 0 ∷ 0 ∷ 0 ∷ 0x21200000 ∷ 0 ∷ 0 ∷ 0xFF80 ∷ 0 ∷ 0x00100000 ∷ []))) (accepted (4 ∷ 0 ∷ 1 ∷ 2 ∷ 5 ∷ 11 ∷ 6 ∷ []))
    ∷ row (span_of (carried 0x21200000) []) 5
    -- "0x140F0005: type 1, trailer, count 15, two payload words. Given 4 words: CUT. Size 2: SHORT. Size 3: accepted, empty body."
    ∷ row (packet_says (read_told (0x140F0005 ∷ 7 ∷ 0xABCDEF12 ∷ 0x30000000 ∷ 0 ∷ []))) (accepted (1 ∷ 1 ∷ 0 ∷ 0 ∷ 15 ∷ 5 ∷ 2 ∷ []))
    ∷ row (packet_says (read_told (0x140F0005 ∷ 7 ∷ 0xABCDEF12 ∷ 0x30000000 ∷ []))) (refused (refusal CUT (Word 0)))
    ∷ row (packet_says (read_told (0x140F0002 ∷ 7 ∷ 0xABCDEF12 ∷ 0x30000000 ∷ 0 ∷ []))) (refused (refusal SHORT (Word 0)))
    ∷ row (packet_says (read_told (0x140F0003 ∷ 7 ∷ 0xABCDEF12 ∷ 0x30000000 ∷ 0 ∷ []))) (accepted (1 ∷ 1 ∷ 0 ∷ 0 ∷ 15 ∷ 3 ∷ 0 ∷ []))
    -- "last 14, then 2: missing 3. Last 2, then 2: 15."
    ∷ row (missed (14 ∷ 2 ∷ [])) 3
    ∷ row (missed (2 ∷ 2 ∷ [])) 15
    -- "12-bit items ABC, DEF, 123: link ABCDEF12 30000000; processing ABCDEF00 12300000."
    ∷ row (pack_of 0x800002CB 0 (0xABC ∷ 0xDEF ∷ 0x123 ∷ []) none3 none3 (0 ∷ 0 ∷ [])) (wrote 2 (0xABCDEF12 ∷ 0x30000000 ∷ []))
    ∷ row (pack_of 0x000002CB 0 (0xABC ∷ 0xDEF ∷ 0x123 ∷ []) none3 none3 (0 ∷ 0 ∷ [])) (wrote 2 (0xABCDEF00 ∷ 0x12300000 ∷ []))
    ∷ row (unpack_of 0x800002CB 0 3 (0xABCDEF12 ∷ 0x30000000 ∷ []) (buffers none3 none3 none3)) (gave 3 (0xABC ∷ 0xDEF ∷ 0x123 ∷ []) none3 none3)
    ∷ row (unpack_of 0x000002CB 0 3 (0xABCDEF00 ∷ 0x12300000 ∷ []) (buffers none3 none3 none3)) (gave 3 (0xABC ∷ 0xDEF ∷ 0x123 ∷ []) none3 none3)
    -- "f 16, item 12 bits ABC, one event bit 1, two channel bits 2: ABC6."
    ∷ row (pack_of 0x801203CB 0 (0xABC ∷ []) (1 ∷ []) (2 ∷ []) (0 ∷ [])) (wrote 1 (0xABC60000 ∷ []))
    -- "0xA00003CF: link, complex, 16-bit signed."
    ∷ row (link_efficient 0xA00003CF) true
    ∷ row (real_complex 0xA00003CF ∷ item_code 0xA00003CF ∷ packing_size 0xA00003CF ∷ item_size 0xA00003CF ∷ []) (1 ∷ 0 ∷ 16 ∷ 16 ∷ [])
    -- "rate 0x00000000 00100000 is 1 Hz; frequency 0xFFFFFFFF FFFFFFFF is whole -1, parts 1,048,575."
    ∷ row (shown_of 21 (0x00000000 ∷ 0x00100000 ∷ [])) (frequency (pos 1) 0)
    ∷ row (shown_of 27 (0xFFFFFFFF ∷ 0xFFFFFFFF ∷ [])) (frequency (negsuc 0) 1048575)
    -- "level 0xFF80 is -1; temperature 0xFFE0 is -0.5. 12-bit 0x800 is -2048; one-bit 1 is -1." A float is sign, fraction and exponent: -1 is -(1 * 2 ^ 0), and
    -- -0.5 is -(1 * 2 ^ -1)
    ∷ row (shown_of 24 (0xFF80 ∷ [])) (level (fin true 1 (pos 0)))
    ∷ row (shown_of 18 (0xFFE0 ∷ [])) (temperature (fin true 1 (negsuc 0)))
    ∷ row (signed_of 12 0x800) (accepted (negsuc 2047))
    ∷ row (signed_of 1 1) (accepted (negsuc 0))
    ∷ []
