-- Demand 2: "An accepted packet written again gives the same words", by either choice. The idea: the header that reading took apart joins to itself, each part
-- stands where reading found it, so the pieces of the packet written again are the first words of what was read, one after the other (`one_more`, `two_more`).
-- The class's first word is its pad count, zeros and the OUI (`class_top`): plain, the pad count is zero since CLASS is not given; where 49A governs, the class
-- fits the table. The words are those of 32-bit slices, below 2 ^ 32.
use Rattle.words.proofs.Kit.{◌≡◌, refl, sym, ap, ◌∙◌, Bool, true, false, not, List, [], ◌∷◌, ◌++◌, ℕ, zero, suc, ◌+◌, ◌-◌, ◌*◌, ◌/◌, ◌%◌, ◌^◌, ◌≤◌}
use Rattle.words.proofs.Kit.{◌<◌, arith, eqb-true, not-false, ltb-false, lt-ltb, le-ltb, eqb, ltb, length, get_or, take, drop}
use mathlib.Core.List.{append-nil, append_assoc}
use native.Mathlib.Nat.{add-zero, mod-lt, div-one, le_refl}
use native.Mathlib.Numerals.{add-one}
use lib.Dec.{lit<}
use lib.Seq.{take-suc, take-add, append_snoc}
use Rattle.words.specs.Tests.{pick, when, both}
use Rattle.words.specs.Word.{bits, has, high_first, join, total}
use Rattle.words.specs.Part.{part}
use Rattle.words.specs.Outcome.{accepted}
use Rattle.words.specs.Refusals.{only_where}
use Rattle.words.proofs.Cases.{both_left, pick_same, when_most, onward_passed, accepted_same}
use Rattle.words.proofs.RefusalLaws.{first_passed, first_fine}
use Rattle.words.proofs.PartLaws.{part_length}
use Rattle.words.proofs.WordLaws.{fields_from, join_split, split_from}
use Rattle.packet_survey.specs.Class.{pad_of, high_known, class_known}
use Rattle.packet_survey.specs.Payload.{pad_bad}
use Rattle.packet_survey.proofs.PayloadLaws.{pad_small, pad_known}
use Rattle.packet.specs.declared.Parts.{Parts}
use Rattle.packet.specs.declared.Packet.{Packet}
use Rattle.packet.specs.declared.Survey.{Survey}
use Rattle.packet.specs.Header.{type_of, classed, trailed, tsm_of, reserved_of, tsi_of, tsf_of, count_of, size_of}
use Rattle.packet.specs.Parts.{streamed, has_seconds, has_fraction, class_at, seconds_at, fraction_at, body_at, required_of, body_length, word_if, class_high}
use Rattle.packet.specs.Parts.{class_low}
use Rattle.packet.specs.Parts.{fraction_of, parts_of, body_of, packet_of}
use Rattle.packet.specs.Read.{header_list, prologue_list, time_over, class_bad, governed, pad_list, read_by}
use Rattle.packet.specs.Survey.{survey_of}
use Rattle.packet.specs.Told.{read_told, survey_told}
use Rattle.packet.specs.inner.Steps.{header_checks, prologue_checks, body_checks, pad_checks}
use Rattle.packet_write.specs.Write.{flag_bit, header_widths, header_word, size_for, given, class_first, class_word, leading_words, class_words, time_words}
use Rattle.packet_write.specs.Write.{prologue_words, trailer_words, packet_words, codes_fit, flags_fit, class_fits, parts_fit, governs, pad_for, pad_fits}
use Rattle.packet_write.specs.Write.{write_list_by, write_by}
use Rattle.packet_write.specs.inner.Steps as written
use Rattle.packet_write.specs.inner.Steps.{parts_checks, measure_checks, room_checks, write_checks}
use Rattle.packet.proofs.RoomLaws.{Room, room}
use Rattle.packet.proofs.ReadLaws.{Passed, sized, read_accepts}
use Rattle.packet.proofs.ToldLaws.{told_packet, told_given}
use Rattle.packet_write.proofs.FitLaws.{parts_fit_lem, nothing_refused}
use Rattle.packet_write.proofs.HeaderLaws.{two_bits, size_for_is, required_is}
use Rattle.demands.specs.Program.{ours, AreWords, reads_by, writes_by}
use Rattle.demands.proofs.Survey.{survey_none, survey_is}

-- ---- the header

bit_again : (n : ℕ) → n < 2 → flag_bit (eqb n 1) ≡ n
bit_again zero h = refl
bit_again (suc zero) h = refl
bit_again (suc (suc n)) h = absurd (omega arith)

-- T and TSM by the type, where the reserved bits are clear
flags_again : (young : Bool) (high middle low : ℕ) → high < 2 → low < 2 → pick young (middle * 2 + low) (high * 2 + middle) ≡ 0
    → (flag_bit (pick young false (eqb low 1)) ≡ low) × (0 ≡ middle) × (flag_bit (pick young (eqb high 1) false) ≡ high)
flags_again true high middle low h l e = (omega arith, omega arith, bit_again high h)
flags_again false high middle low h l e = (bit_again low l, omega arith, omega arith)

pub header_passed : (w : ℕ) → header_checks w ≡ accepted tt → (type_of w ≤ 5) × (reserved_of w ≡ 0)
unfolding header_checks
header_passed w e =
    let a = (first_passed (header_list w) _ tt e).0 in
    (ltb-false 5 (type_of w) a.0, eqb-true (reserved_of w) 0 (not-false _ a.1.0))

pub header_again : (w : ℕ) (ws : List ℕ) → w < 2 ^ 32 → reserved_of w ≡ 0 → header_word (parts_of w ws) (size_of w) ≡ w
unfolding header_word parts_of reserved_of trailed tsm_of total
header_again w ws h e =
    let clear = rw (two_bits w 24, two_bits w 25) at e in
    let f = flags_again (ltb (type_of w) 4) (w / 2 ^ 26 % 2) (w / 2 ^ 25 % 2) (w / 2 ^ 24 % 2) (mod-lt _ (lit< tt)) (mod-lt _ (lit< tt)) clear in
    let c : flag_bit (classed w) ≡ w / 2 ^ 27 % 2 = bit_again (w / 2 ^ 27 % 2) (mod-lt _ (lit< tt)) in
    let size : size_of w ≡ w / 2 ^ 0 % 2 ^ 16 = rw (div-one w) in
    let same : size_of w ∷ count_of w ∷ tsf_of w ∷ tsi_of w ∷ flag_bit (tsm_of w) ∷ 0 ∷ flag_bit (trailed w) ∷ flag_bit (classed w) ∷ type_of w ∷ []
    ≡ fields_from 0 header_widths w =
    cc (size, f.0, f.1, f.2, c) in
    ap (join header_widths) (same ∙ sym (split_from header_widths w)) ∙ join_split header_widths w h

-- ---- one part more

one_more : (ws : List ℕ) (n : ℕ) (t : Bool) → n + when t 1 ≤ length ws → take n ws ++ given t (word_if t n ws ∷ []) ≡ take (n + when t 1) ws
unfolding word_if
one_more ws n true h = rw add-one (sym (take-suc ws n 0 (omega arith)))
one_more ws n false h = append-nil (take n ws) ∙ ap (λ (k : ℕ). take k ws) (sym (add-zero n))

two_more : (ws : List ℕ) (n : ℕ) (t : Bool) → n + when t 2 ≤ length ws
    → take n ws ++ given t (word_if t n ws ∷ word_if t (n + 1) ws ∷ []) ≡ take (n + when t 2) ws
unfolding word_if
two_more ws n true h =
    sym (append_snoc (take n ws) (get_or ws n 0) (get_or ws (n + 1) 0 ∷ []))
    ∙ ap (λ (l : List ℕ). l ++ (get_or ws (n + 1) 0 ∷ [])) (one_more ws n true (omega arith))
    ∙ one_more ws (n + 1) true (omega arith)
    ∙ ap (λ (k : ℕ). take k ws) {x = n + 1 + 1} {y = n + 2} (omega arith)
two_more ws n false h = append-nil (take n ws) ∙ ap (λ (k : ℕ). take k ws) (sym (add-zero n))

-- the trailer is the last word of the size
last_more : (ws : List ℕ) (n size : ℕ) (t : Bool) → n + when t 1 ≡ size → size ≤ length ws → take n ws ++ given t (word_if t (size - 1) ws ∷ []) ≡ take size ws
last_more ws n size true e h =
    let k : size - 1 ≡ n = omega arith in
    rw k (one_more ws n true (omega arith)) ∙ ap (λ (m : ℕ). take m ws) e
last_more ws n size false e h = append-nil (take n ws) ∙ ap (λ (m : ℕ). take m ws) {x = n} {y = size} (omega arith)

first_word : (ws : List ℕ) → 0 < length ws → get_or ws 0 0 ∷ [] ≡ take 1 ws
first_word [] h = absurd (omega arith)
first_word (x ∷ ws) h = refl

-- ---- words that were taken apart, put together

word_small : (t : Bool) (at : ℕ) (ws : List ℕ) → ((i : ℕ) → get_or ws i 0 < 2 ^ 32) → word_if t at ws < 2 ^ 32
unfolding word_if
word_small true at ws h = h at
word_small false at ws h = lit< tt

class_again : (high low pad : ℕ) → high < 2 ^ 32 → low < 2 ^ 32 → bits 26 24 high ≡ 0 → pad_of high ≡ pad
    → (class_first pad (bits 23 0 high) ≡ high) × (class_word (bits 31 16 low) (bits 15 0 low) ≡ low)
unfolding class_first class_word join
class_again high low pad h l e f = (omega arith, omega arith)

plain_top : (high : ℕ) → high < 2 ^ 32 → bits 31 24 high ≡ 0 → (bits 26 24 high ≡ 0) × (pad_of high ≡ 0)
plain_top high h e = (omega arith, omega arith)

when_twice : (t : Bool) (n : ℕ) → when t (when t n) ≡ when t n
when_twice true n = refl
when_twice false n = refl

fraction_again : (high low : ℕ) → low < 2 ^ 32 → (high_first high low / 2 ^ 32 ≡ high) × (high_first high low % 2 ^ 32 ≡ low)
fraction_again high low l = (omega arith, omega arith)

-- ---- parts that were read fit their bits

flags_read : (young t m : Bool) → pick young (not (pick young false m)) (not (pick young t false)) ≡ true
flags_read true t m = refl
flags_read false t m = refl

class_read : (t : Bool) (high low : ℕ) → class_fits t (bits 23 0 high) (bits 31 16 low) (bits 15 0 low) ≡ true
unfolding class_fits
class_read true high low =
    let oui = lt-ltb (bits 23 0 high) (2 ^ 24) (mod-lt _ (lit< tt)) in
    let information = lt-ltb (bits 31 16 low) (2 ^ 16) (mod-lt _ (lit< tt)) in
    let packet = lt-ltb (bits 15 0 low) (2 ^ 16) (mod-lt _ (lit< tt)) in
    rw (oui, information, packet)
class_read false high low = refl

pub parts_read : (w : ℕ) (ws : List ℕ) → parts_fit (parts_of w ws) ≡ true
unfolding parts_fit parts_of codes_fit flags_fit trailed tsm_of
parts_read w ws =
    let tsi = lt-ltb (tsi_of w) 4 (mod-lt _ (lit< tt)) in
    let tsf = lt-ltb (tsf_of w) 4 (mod-lt _ (lit< tt)) in
    let count = lt-ltb (count_of w) 16 (mod-lt _ (lit< tt)) in
    rw (tsi, tsf, count, flags_read (ltb (type_of w) 4) (has w 26) (has w 24)) (class_read (classed w) (class_high w ws) (class_low w ws))

-- ---- the words of an accepted packet, written again
module _ (survey : Bool) (ws : List ℕ) (small : (i : ℕ) → get_or ws i 0 < 2 ^ 32) (p : Packet) (e : read_by survey ws ≡ accepted p) where
  abbrev w : ℕ
  w = get_or ws 0 0

  abbrev P : Parts
  P = parts_of w ws

  abbrev high : ℕ
  high = class_high w ws

  abbrev low : ℕ
  low = class_low w ws

  -- its pad count, and none where 49A does not govern
  abbrev pad : ℕ
  pad = when (governed survey w) (pad_of high)

  passes : Passed survey w ws
  passes = (read_accepts survey ws p e).passes

  inside : size_of w ≤ length ws
  inside = (sized w (length ws) passes.size).1

  lies : Room w (length ws)
  lies = room w (length ws) (sized w (length ws) passes.size).0 inside

  fills : Room w (size_of w)
  fills = room w (size_of w) (sized w (length ws) passes.size).0 (le_refl (size_of w))

  high_small : high < 2 ^ 32
  unfolding class_high
  high_small = word_small (classed w) (class_at w) ws small

  low_small : low < 2 ^ 32
  unfolding class_low
  low_small = word_small (classed w) (class_at w + 1) ws small

  class_asked : class_bad (governed survey w) high ≡ false
  unfolding prologue_checks
  class_asked = (first_passed (prologue_list (governed survey w) w ws) _ tt passes.prologue).0.0

  pad_asked : both (governed survey w) (pad_bad (classed w) (trailed w) high low (body_length w)) ≡ false
  unfolding pad_checks
  pad_asked = (first_passed (only_where (governed survey w) (pad_list w ws)) _ tt passes.pad).0.0

  top_by : (t : Bool) → class_bad t high ≡ false → both t (pad_bad (classed w) (trailed w) high low (body_length w)) ≡ false
      → (bits 26 24 high ≡ 0) × (pad_of high ≡ when t (pad_of high))
  unfolding class_bad class_known high_known
  top_by true c q =
      let known = both_left (high_known high) _ (pad_known (classed w) (trailed w) high low (body_length w) q) in
      (eqb-true _ 0 (both_left (eqb (bits 26 24 high) 0) _ known), refl)
  top_by false c q = plain_top high high_small (eqb-true _ 0 (not-false _ c))

  class_top : (bits 26 24 high ≡ 0) × (pad_of high ≡ pad)
  class_top = top_by (governed survey w) class_asked pad_asked

  class_is : (class_first pad (bits 23 0 high) ≡ high) × (class_word (bits 31 16 low) (bits 15 0 low) ≡ low)
  class_is = class_again high low pad high_small low_small class_top.0 class_top.1

  head_again : leading_words w P ≡ take (class_at w) ws
  unfolding leading_words parts_of class_at
  head_again =
      ap (λ (l : List ℕ). l ++ given (streamed w) (word_if (streamed w) 1 ws ∷ [])) (first_word ws (read_accepts survey ws p e).some)
      ∙ one_more ws 1 (streamed w) lies.identifier

  class_words_there : take (class_at w) ws ++ given (classed w) (high ∷ low ∷ []) ≡ take (seconds_at w) ws
  unfolding class_high class_low seconds_at
  class_words_there = two_more ws (class_at w) (classed w) lies.class

  class_words_again : take (class_at w) ws ++ class_words pad w P ≡ take (seconds_at w) ws
  unfolding class_words parts_of
  class_words_again = rw (class_is.0, class_is.1) class_words_there

  time_words_again : take (seconds_at w) ws ++ time_words w P ≡ take (body_at w) ws
  unfolding time_words parts_of fraction_at body_at fraction_of
  time_words_again =
      let high = word_if (has_fraction w) (fraction_at w) ws in
      let low = word_if (has_fraction w) (fraction_at w + 1) ws in
      let f = fraction_again high low (word_small (has_fraction w) (fraction_at w + 1) ws small) in
      rw (f.0, f.1)
      (sym (append_assoc (take (seconds_at w) ws) (given (has_seconds w) (word_if (has_seconds w) (seconds_at w) ws ∷ []))
      (given (has_fraction w) (high ∷ low ∷ [])))
      ∙ ap (λ (l : List ℕ). l ++ given (has_fraction w) (high ∷ low ∷ [])) (one_more ws (seconds_at w) (has_seconds w) lies.seconds)
      ∙ two_more ws (fraction_at w) (has_fraction w) lies.fraction)

  prologue_again : prologue_words pad w P ≡ take (body_at w) ws
  unfolding prologue_words
  prologue_again =
      ap (λ (l : List ℕ). l ++ class_words pad w P ++ time_words w P) head_again
      ∙ ap (λ (l : List ℕ). l ++ time_words w P) class_words_again
      ∙ time_words_again

  rest_again : take (body_at w) ws ++ body_of w ws ++ trailer_words w P ≡ take (size_of w) ws
  unfolding body_of part trailer_words parts_of body_length
  rest_again =
      ap (λ (l : List ℕ). l ++ trailer_words w P) (sym (take-add (body_at w) (body_length w) ws))
      ∙ last_more ws (body_at w + body_length w) (size_of w) (trailed w) (omega (arith, fills.around)) inside

  header_is : header_word P (size_of w) ≡ w
  header_is = header_again w ws (small 0) (header_passed w passes.header).1

  kind_small : P.kind < 6
  unfolding parts_of
  kind_small = omega (arith, (header_passed w passes.header).0)

  size_small : size_of w < 65536
  size_small = mod-lt w (lit< tt)

  body_length_lem : length (body_of w ws) ≡ body_length w
  unfolding body_of
  body_length_lem = part_length (body_at w) (body_length w) ws lies.body

  size_again : size_for P (length (body_of w ws)) ≡ size_of w
  unfolding body_length
  size_again =
      size_for_is P (size_of w) kind_small (parts_fit_lem P (parts_read w ws)) size_small (length (body_of w ws))
      ∙ rw (header_is, body_length_lem) (omega (arith, fills.around))

  -- the packet's words, written again, are those that were read
  pub packet_again : packet_words pad p.parts (part p.place p.length ws) ≡ take p.size ws
  unfolding packet_words packet_of body_of
  packet_again =
      rw (← (read_accepts survey ws p e).says)
      (ap (λ (h : ℕ). prologue_words pad h P ++ body_of w ws ++ trailer_words h P) (ap (header_word P) size_again ∙ header_is)
      ∙ ap (λ (l : List ℕ). l ++ body_of w ws ++ trailer_words w P) prologue_again
      ∙ rest_again)

  time_passed : time_over (tsf_of w) (fraction_of w ws) ≡ false
  unfolding prologue_checks
  time_passed = (first_passed (prologue_list (governed survey w) w ws) _ tt passes.prologue).0.1.0

  required_again : required_of (header_word P 0) ≡ required_of w
  required_again = sym (required_is P (size_of w) kind_small (parts_fit_lem P (parts_read w ws)) size_small) ∙ ap required_of header_is

  -- nothing refuses it, where there is room
  pad_fits_lem : pad_fits survey pad P ≡ true
  unfolding pad_fits
  pad_fits_lem =
      let fits = lt-ltb pad 32 (omega (arith, when_most (governed survey w) (pad_of high), pad_small high)) in
      rw fits (pick_same (both (governs survey P) P.classed) true)

  parts_again : parts_checks survey pad P ≡ accepted tt
  unfolding parts_checks
  parts_again = rw (le-ltb 5 P.kind (omega (arith, kind_small)), pad_fits_lem, parts_read w ws)

  pad_again : written.pad_checks survey pad P (body_of w ws) ≡ accepted tt
  unfolding written.pad_checks parts_of
  pad_again = rw (class_is.0, class_is.1, body_length_lem, pad_asked)

  measure_again : measure_checks P (length (body_of w ws)) ≡ accepted tt
  unfolding measure_checks parts_of
  measure_again =
      let whole = le-ltb (size_of w) (required_of w) (sized w (length ws) passes.size).0 in
      rw (size_again, required_again, whole, le-ltb 65535 (size_of w) (omega (arith, size_small)), time_passed)

  body_again : body_checks P.kind (body_of w ws) ≡ accepted tt
  unfolding parts_of
  body_again = passes.body

  may_again : (room at : ℕ) → at + size_of w ≤ room → write_checks survey pad P (body_of w ws) room at ≡ accepted tt
  unfolding room_checks
  may_again room at h =
      nothing_refused survey pad P (body_of w ws) room at (size_of w) parts_again measure_again body_again pad_again (sym size_again)
      (rw (le-ltb room (at + size_of w) h))

  pad_is : pad_for survey pad P ≡ pad
  unfolding parts_of
  pad_is = when_twice (governed survey w) (pad_of high)

  -- written again anywhere where there is room, it gives its words
  again_by : (out : List ℕ) (at : ℕ) → at + p.size ≤ length out
      → write_by survey pad p.parts (part p.place p.length ws) out at
      ≡ accepted (record { says = p.size; leaves = take at out ++ take p.size ws ++ drop (at + p.size) out })
  unfolding write_by write_checks packet_of body_of
  again_by out at h =
      let says = (read_accepts survey ws p e).says in
      let words = rw (← says) at packet_again in
      rw (← says)
      (first_fine (write_list_by survey pad P (body_of w ws) (length out) at) tt tt _ (may_again (length out) at (rw (← says) at h))
      ∙ rw (pad_is, size_again, words))

-- ---- by either choice

pub written_again : (survey : Bool) (ws : List ℕ) → AreWords ws → (p : Packet) (pad : ℕ) → reads_by ours survey ws ≡ accepted (p, pad)
    → (out : List ℕ) (at : ℕ) → at + p.size ≤ length out
    → writes_by ours survey pad p.parts (part p.place p.length ws) out at
    ≡ accepted (record { says = p.size; leaves = take at out ++ take p.size ws ++ drop (at + p.size) out })
unfolding survey_of
written_again false ws small p pad e =
    let k = onward_passed (read_told ws) _ (p, pad) e in
    let same : k.0 ≡ p = ap (λ (x : Packet × ℕ). x.0) (accepted_same k.2) in
    again_by false ws small p (told_packet ws k.0 k.1 ∙ ap accepted same)
written_again true ws small p pad e =
    let k = onward_passed (survey_told ws) _ (p, pad) e in
    let given = told_given ws k.0 k.1 in
    let is : survey_of (get_or ws 0 0) ws ≡ k.0 = survey_is ws k.0 given in
    let same : packet_of (get_or ws 0 0) ws ≡ p = ap (λ (s : Survey). s.packet) is ∙ ap (λ (x : Packet × ℕ). x.0) (accepted_same k.2) in
    let count : when (eqb (type_of (get_or ws 0 0)) 1) (pad_of (class_high (get_or ws 0 0) ws)) ≡ pad =
    ap (λ (s : Survey). s.pad) is ∙ ap (λ (x : Packet × ℕ). x.1) (accepted_same k.2) in
    rw (← count) (again_by true ws small p (survey_none ws k.0 given ∙ ap accepted same))
