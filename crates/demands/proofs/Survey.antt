-- 49A packets. The idea: an accepted packet passed PAD, so its class fits the table and its payload is whole sample vectors and padding; its n is the one
-- number of items that does it (`items_fill`, `items_one`). The formats of the table are legal, and each word of theirs carries 32 bits, by one test that
-- computes over data types, real and complex (`formats_right`); so n items need exactly the payload's words. Types other than 1 and packets of no stream follow
-- from the lists.
use Rattle.words.proofs.Kit.{◌≡◌, refl, sym, ap, ◌∙◌, Bool, true, false, not, List, [], ◌∷◌, ℕ, ◌+◌, ◌-◌, ◌*◌, ◌/◌, ◌%◌, ◌^◌, ◌≤◌, ◌<◌, arith, eq-eqb, ne_eqb}
use Rattle.words.proofs.Kit.{subst, eqb-true, not-true, le-ltb, le-leb, eqb, leb, length, get_or}
use mathlib.Core.Logic.{◌↔◌}
use native.Mathlib.Nat.{mod-lt, mul_comm, mul-le-mul, le_refl, le_trans}
use Rattle.words.specs.declared.Where.TheVariants.{Word}
use Rattle.words.specs.Numbers.{STREAM}
use Rattle.words.specs.Tests.{pick, when, both, either, among}
use Rattle.words.specs.All.{all}
use Rattle.words.specs.Word.{join}
use Rattle.words.specs.Part.{part}
use Rattle.words.specs.Refusals.{first_given, only_where}
use Rattle.words.specs.Outcome.{Outcome, Reply, refused, accepted, onward, said_of}
use Rattle.words.specs.Told.{RefusalTold, told, refusal}
use Rattle.words.proofs.Cases.{both_left, both_right, accepted_same}
use Rattle.words.proofs.RefusalLaws.{first_passed, none_given, onward_first}
use Rattle.words.proofs.ToldLaws.{told_onward}
use Rattle.words.proofs.AllLaws.{all_at}
use Rattle.words.proofs.PartLaws.{part_length}
use Rattle.fields.specs.Format.{packing_size, item_size, code_known, code_fits, format_ok}
use Rattle.packet_survey.specs.Class.{pad_of, real_complex_in, data_type, vector_in, high_known, low_known, class_known, item_bits, code_of}
use Rattle.packet_survey.specs.Payload.{vector_bits, payload_bits, payload_whole, pad_bad, items_in, format_first, format_second}
use Rattle.packet_survey.proofs.ClassLaws.{class_low_lem, complex_most, type_least, type_most, bits_least}
use Rattle.packet_survey.proofs.PayloadLaws.{pad_small, pad_classed, pad_trailed, pad_known, pad_whole, items_vectors, items_fill, items_one}
use Rattle.packet.specs.declared.Packet.{Packet}
use Rattle.packet.specs.declared.Survey.{Survey}
use Rattle.packet.specs.Header.{type_of, classed, trailed, tsm_of, reserved_of, size_of}
use Rattle.packet.specs.Parts.{streamed, has_seconds, has_fraction, class_at, seconds_at, fraction_at, body_at, required_of, body_length, word_if, class_high}
use Rattle.packet.specs.Parts.{class_low}
use Rattle.packet.specs.Parts.{fraction_of, parts_of, body_of, packet_of}
use Rattle.packet.specs.Read.{time_over, class_bad, governed, pad_list, list_by, read_by, read_of}
use Rattle.packet.specs.Survey.{survey_of, read_survey_of}
use Rattle.packet.specs.Told.{where_of, read_told, survey_told}
use Rattle.packet.specs.inner.Steps.{pad_checks}
use Rattle.packet.proofs.ReadLaws.{read_accepts, body_inside, read_inside}
use Rattle.packet.proofs.FrontLaws.{survey_other}
use Rattle.packet.proofs.ToldLaws.{told_given}
use Rattle.packet.proofs.InsideLaws.{stream_place}
use Rattle.payload_format.specs.Format.{component_count, wide_processing, format_bad, carried_bits}
use Rattle.payload_format.specs.Count.{group_of, count_bad, words_for, needed_of}
use Rattle.bitstream.specs.Carried.{needed}
use Rattle.payload_unpack.specs.Unpack.{Buffers, unpack_of}
use Rattle.vrt49.proofs.CallLaws.{◌and◌}
use Rattle.demands.specs.Listing.{Listing, streams_in, place_in, chosen_in}
use Rattle.demands.specs.Trace.{arrival_of, arrival_by, heard_by}
use Rattle.demands.specs.Program.{ours}
use Rattle.demands.specs.Samples.{Hold}
use Rattle.demands.specs.Survey.{OneN, OthersPlain, UnlistedPlain, survey_samples}
use Rattle.demands.proofs.HearingLaws.{done_on, play_is}
use Rattle.demands.proofs.RightLaws.{right_listed}

-- ---- the formats of the table

-- the first word of the format of a data type, real (0) or complex (1)
abbrev format_by : ℕ → ℕ → ℕ
format_by c k = join (6 ∷ 6 ∷ 12 ∷ 5 ∷ 2 ∷ []) ((item_bits k - 1) ∷ (item_bits k - 1) ∷ 0 ∷ code_of k ∷ c ∷ [])

-- a format f is legal, its items and packing fields have so many bits, each word carries 32 bits, and a sample has c + 1 components
abbrev carries_all : ℕ → ℕ → Bool
carries_all f c = both (eqb (carried_bits f) 32) (eqb (component_count f) (c + 1))

abbrev packs_bits : ℕ → ℕ → ℕ → Bool
packs_bits f c bits = both (eqb (packing_size f) bits) (carries_all f c)

abbrev has_bits : ℕ → ℕ → ℕ → Bool
has_bits f c bits = both (eqb (item_size f) bits) (packs_bits f c bits)

abbrev is_legal : ℕ → ℕ → ℕ → Bool
is_legal f c bits = both (not (format_bad f)) (has_bits f c bits)

format_right : ℕ → ℕ → Bool
format_right c k = pick (leb 1 k) (is_legal (format_by c k) c (item_bits k)) true

formats_right : all 2 (λ c. all 14 (format_right c)) ≡ true
unfolding all format_right item_bits code_of join format_bad wide_processing format_ok code_known code_fits carried_bits component_count
formats_right = refl

module _ (low : ℕ) (known : low_known low ≡ true) where
  abbrev first : ℕ
  first = format_first low

  abbrev size : ℕ
  size = item_bits (data_type low)

  abbrev c : ℕ
  c = real_complex_in low

  format_right_lem : is_legal first c size ≡ true
  unfolding format_right format_first
  format_right_lem =
      let k = data_type low in
      let row = all_at (λ x. all 14 (format_right x)) 2 c (omega (arith, complex_most low known)) formats_right in
      rw (le-leb 1 k (type_least low known)) at (all_at (format_right c) 14 k (omega (arith, type_most low known)) row)

  -- FORMAT is not given
  format_fine : format_bad first ≡ false
  format_fine = not-true _ (both_left (not (format_bad first)) _ format_right_lem)

  bits_right : has_bits first c size ≡ true
  bits_right = both_right (not (format_bad first)) (has_bits first c size) format_right_lem

  -- an item fills its packing field, and each word carries 32 bits
  item_size_lem : item_size first ≡ size
  item_size_lem = eqb-true _ _ (both_left (eqb (item_size first) size) _ bits_right)

  packing_right : packs_bits first c size ≡ true
  packing_right = both_right (eqb (item_size first) size) (packs_bits first c size) bits_right

  packing_size_lem : packing_size first ≡ size
  packing_size_lem = eqb-true _ _ (both_left (eqb (packing_size first) size) _ packing_right)

  carried_right : carries_all first c ≡ true
  carried_right = both_right (eqb (packing_size first) size) (carries_all first c) packing_right

  all_carried : carried_bits first ≡ 32
  all_carried = eqb-true _ _ (both_left (eqb (carried_bits first) 32) _ carried_right)

  components : component_count first ≡ c + 1
  components = eqb-true _ _ (both_right (eqb (carried_bits first) 32) _ carried_right)

  one_repeat : (low % 2 ^ 16 % 2 ^ 16 + 1) * (low % 2 ^ 16 / 2 ^ 16 % 2 ^ 16 + 1) ≡ low % 2 ^ 16 + 1
  one_repeat =
      let v : low % 2 ^ 16 % 2 ^ 16 + 1 ≡ low % 2 ^ 16 + 1 = omega arith in
      let r : low % 2 ^ 16 / 2 ^ 16 % 2 ^ 16 + 1 ≡ 1 = omega arith in
      rw (v, r) (omega arith)

  group_is : group_of first (format_second low) ≡ vector_in low * (real_complex_in low + 1)
  unfolding group_of format_second
  group_is = rw components (ap (λ (v : ℕ). v * (real_complex_in low + 1)) one_repeat)

-- ---- an accepted packet of type 1

module _ (ws : List ℕ) (s : Survey) (e : read_survey_of ws ≡ accepted s) where
  abbrev w : ℕ
  w = get_or ws 0 0

  -- it is read as its words say, and passed every test
  pub survey_none : read_by true ws ≡ accepted (packet_of w ws)
  unfolding read_survey_of read_by
  survey_none = none_given (list_by true w ws) _ (first_passed (list_by true w ws) _ s e).0

  pub survey_is : survey_of w ws ≡ s
  unfolding read_survey_of
  survey_is = accepted_same (first_passed (list_by true w ws) _ s e).1

  module _ (k : type_of w ≡ 1) where
    abbrev high : ℕ
    high = class_high w ws

    abbrev low : ℕ
    low = class_low w ws

    abbrev l : ℕ
    l = body_length w

    abbrev n : ℕ
    n = items_in high low l

    not_pad : pad_bad (classed w) (trailed w) high low l ≡ false
    unfolding pad_checks
    not_pad =
        let asked = first_passed (only_where (governed true w) (pad_list w ws)) _ tt (read_accepts true ws _ survey_none).passes.pad in
        rw (eq-eqb (type_of w) 1 k) at asked.0.0

    known : class_known high low ≡ true
    known = pad_known (classed w) (trailed w) high low l not_pad

    whole : payload_whole high low l ≡ true
    whole = pad_whole (classed w) (trailed w) high low l not_pad

    legal : low_known low ≡ true
    legal = class_low_lem high low known

    fill : n * item_bits (data_type low) + pad_of high ≡ 32 * l
    fill = items_fill high low l whole known

    -- header, identifier, class and trailer leave at most 65,530 words
    body_most : l ≤ 65530
    unfolding body_length body_at fraction_at seconds_at class_at streamed
    body_most =
        let z : size_of w < 65536 = mod-lt w (omega arith) in
        rw (k, pad_classed (classed w) (trailed w) high low l not_pad, pad_trailed (classed w) (trailed w) high low l not_pad) (omega (arith, z))

    items_few : n ≤ 2096960
    items_few =
        let b = bits_least (data_type low) (type_least low legal) (type_most low legal) in
        omega (arith, fill, body_most, mul-le-mul (le_refl n) b)

    count_fine : count_bad (format_first low) (format_second low) n ≡ false
    unfolding count_bad
    count_fine =
        rw (le-ltb 2097120 n (omega (arith, items_few)), group_is low legal, eq-eqb _ 0 (items_vectors high low l whole known))

    words_are : words_for (format_first low) n ≡ l
    unfolding words_for needed
    words_are =
        rw (all_carried low legal, packing_size_lem low legal) (omega (arith, fill, pad_small high, mul_comm (item_bits (data_type low)) n))

    needs_body : needed_of (format_first low) (format_second low) n ≡ accepted l
    unfolding needed_of
    needs_body = rw (format_fine low legal, count_fine, words_are)

    body_long : length (part (body_at w) l ws) ≡ l
    unfolding packet_of
    body_long = part_length (body_at w) l ws (le_trans (body_inside true ws _ survey_none) (read_inside true ws _ survey_none))

    unpacks_body : (b : Buffers) → n ≤ length b.items → n ≤ length b.events → n ≤ length b.channels
        → said_of (unpack_of (format_first low) (format_second low) n (part (body_at w) l ws) b) ≡ accepted n
    unfolding unpack_of
    unpacks_body b i v c =
        rw (format_fine low legal, count_fine, words_are, body_long, eq-eqb l l refl, le-ltb _ _ i, le-ltb _ _ v, le-ltb _ _ c)

    one : (m : ℕ) → (m * item_size (format_first low) + pad_of high ≡ 32 * l) ↔ (m ≡ n)
    one m = rw (item_size_lem low legal) (items_one high low l whole known m, λ i. rw i fill)

    one_read : OneN ours ws (survey_of w ws)
    unfolding survey_of packet_of
    one_read = rw (eq-eqb (type_of w) 1 k) (record { one = one; most = items_few; needs = needs_body; unpacks = unpacks_body })

pub one_n : (ws : List ℕ) (s : Survey) → survey_told ws ≡ accepted s → s.packet.parts.kind ≡ 1 → OneN ours ws s
unfolding survey_of packet_of parts_of
one_n ws s told k =
    let e = told_given ws s told in
    let is = survey_is ws s e in
    let kind : type_of (get_or ws 0 0) ≡ 1 = ap (λ (x : Survey). x.packet.parts.kind) is ∙ k in
    subst (OneN ours ws) is (one_read ws s e kind)

-- ---- packets that stay plain

abbrev plainly : {R : Type 0} → Packet → Reply R Survey
plainly p = accepted (record { packet = p; pad = 0; first = 0; second = 0; items = 0 })

other_read : (ws : List ℕ) → ((packet_of (get_or ws 0 0) ws).parts.kind ≡ 1 → ⊥) → read_survey_of ws ≡ onward (read_of ws) plainly
unfolding read_survey_of read_by survey_of packet_of parts_of
other_read ws other =
    let w = get_or ws 0 0 in
    let list = list_by true w ws in
    let plain : Packet → Outcome Survey = plainly in
    ap (first_given list) (rw (ne_eqb (type_of w) 1 other)) ∙ sym (onward_first list (packet_of w ws) plain)
    ∙ ap (λ (o : Outcome Packet). onward o plain) (survey_other true ws other)

pub others_plain : OthersPlain ours
unfolding read_told survey_told
others_plain ws other = ap (told (where_of ws)) (other_read ws other) ∙ told_onward (where_of ws) (read_of ws) plainly

either_yes : (t : Bool) → either t true ≡ true
either_yes true = refl
either_yes false = refl

module _ (list : Listing) (t ws : List ℕ) (none : streams_in list ≤ place_in list (packet_of (get_or ws 0 0) ws).parts.identifier) where
  abbrev borne : ℕ
  borne = (packet_of (get_or ws 0 0) ws).parts.identifier

  abbrev not_listed : RefusalTold
  not_listed = refusal STREAM (Word (when (streamed (get_or ws 0 0)) 1))

  unheard : (o : Outcome Packet) → read_of ws ≡ o → onward (heard_by list ws) (done_on t) ≡ onward (told (where_of ws) o) (λ p. refused not_listed)
  unfolding heard_by arrival_by chosen_in arrival_of
  unheard (refused n) e = rw (le-ltb (place_in list borne) (streams_in list) none, e)
  unheard (accepted p) e =
      let same : p.parts.identifier ≡ borne = ap (λ (q : Packet). q.parts.identifier) (sym (read_accepts false ws p e).says) in
      rw (le-ltb (place_in list borne) (streams_in list) none, e, same, le-leb (streams_in list) (place_in list borne) none)
      (rw (either_yes (among p.parts.kind (0 ∷ 2 ∷ [])), stream_place ws))

pub unlisted_plain : UnlistedPlain ours
unfolding read_told
unlisted_plain list packets t r ws none = play_is list t (right_listed r) ws ∙ unheard list t ws none (read_of ws) refl

-- ---- samples

pub survey_samples_lem : Hold survey_samples
unfolding survey_samples read_told survey_told where_of read_survey_of read_by survey_of pad_bad class_known high_known low_known payload_whole payload_bits
    vector_bits items_in item_bits code_of format_first format_second join trailed tsm_of reserved_of streamed has_seconds has_fraction class_at seconds_at
    fraction_at body_at required_of body_length word_if class_high class_low fraction_of parts_of body_of packet_of part time_over class_bad
survey_samples_lem =
    refl and refl and refl and refl and refl and refl and refl and refl and refl and refl and refl and refl and refl and refl and refl and refl and refl and tt
