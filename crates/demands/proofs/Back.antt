-- What was written reads back by the same choice as the same parts, pad count and body, absent parts zero. The idea: the header that was written says the same
-- again (HeaderLaws), so each part is looked for where it was laid (`found_one`, `found_two`), whatever words follow the packet.
use Rattle.words.proofs.Kit.{◌≡◌, refl, sym, ap, ◌∙◌, Bool, true, false, ⊎_elim, List, [], ◌∷◌, ◌++◌, ℕ, ◌+◌, ◌-◌, ◌/◌, ◌%◌, ◌^◌, ◌≤◌, ◌<◌, arith, le-ltb}
use Rattle.words.proofs.Kit.{eqb, ltb, length, get_or, take, drop}
use mathlib.Core.List.{append_assoc}
use borrow.Author.Tests.{ltb-true}
use lib.ListN.{length-append}
use lib.Seq.{get_or_at, drop_at, take_at, length-take-le}
use Rattle.words.specs.Tests.{when, both}
use Rattle.words.specs.Word.{bits, high_first, join}
use Rattle.words.specs.Part.{part}
use Rattle.words.specs.Outcome.{accepted, Done}
use Rattle.words.specs.Refusals.{only_where}
use Rattle.words.proofs.Cases.{true_or_false, both_left, both_right, both_no, accepted_same}
use Rattle.words.proofs.RefusalLaws.{first_passed, none_given}
use Rattle.packet_survey.specs.Class.{pad_of}
use Rattle.packet_survey.specs.Payload.{pad_bad}
use Rattle.packet_survey.proofs.PayloadLaws.{pad_classed}
use Rattle.packet.specs.declared.Parts.{Parts}
use Rattle.packet.specs.Header.{classed, trailed, size_of}
use Rattle.packet.specs.Parts.{streamed, has_seconds, has_fraction, class_at, seconds_at, fraction_at, body_at, required_of, body_length, word_if, class_high}
use Rattle.packet.specs.Parts.{class_low}
use Rattle.packet.specs.Parts.{fraction_of, parts_of, body_of, packet_of}
use Rattle.packet.specs.Read.{time_over, class_bad, governed, read_by}
use Rattle.packet.specs.Survey.{survey_of}
use Rattle.packet.specs.Told.{read_told, survey_told}
use Rattle.packet.specs.inner.Steps.{header_checks, size_checks, prologue_checks, pad_checks}
use Rattle.packet_write.specs.Write.{header_word, size_for, given, class_first, class_word, leading_words}
use Rattle.packet_write.specs.Write.{class_words, time_words, prologue_words, trailer_words, packet_words, plain_parts}
use Rattle.packet_write.specs.Write.{class_fits, governs, pad_for, pad_fits, pad_list, write_list_by, write_by}
use Rattle.packet_write.specs.inner.Given.{Layable}
use Rattle.packet_write.specs.inner.Steps as written
use Rattle.packet_write.specs.inner.Steps.{write_checks}
use Rattle.packet_write.proofs.FitLaws.{Fits, parts_fit_lem, Writable, writable, layable}
use Rattle.packet.proofs.RoomLaws.{body_past}
use Rattle.packet.proofs.ReadLaws.{Passed, accepts_read, read_accepts}
use Rattle.packet.proofs.FrontLaws.{survey_same}
use Rattle.packet_write.proofs.HeaderLaws.{type_is, classed_is, trailed_is, tsm_is, tsi_is, tsf_is, count_is, size_is, reserved_is, size_for_is, required_is}
use Rattle.packet_write.proofs.LayLaws.{length_given, head_length, class_length, prologue_length, packet_length}
use Rattle.demands.specs.Program.{ours, reads_by, writes_by}

-- ---- an optional part, found where it was laid

found_one : (ws before rest : List ℕ) (t : Bool) (x n : ℕ) → ws ≡ before ++ (given t (x ∷ []) ++ rest) → length before ≡ n → word_if t n ws ≡ when t x
unfolding word_if
found_one ws before rest true x n e l = rw e (get_or_at before x rest 0 n l)
found_one ws before rest false x n e l = refl

found_two : (ws before rest : List ℕ) (t : Bool) (x y n : ℕ) → ws ≡ before ++ (given t (x ∷ y ∷ []) ++ rest) → length before ≡ n
    → (word_if t n ws ≡ when t x) × (word_if t (n + 1) ws ≡ when t y)
unfolding word_if
found_two ws before rest true x y n e l = (
  rw e (get_or_at before x (y ∷ rest) 0 n l),
  rw (e, ← append_assoc before (x ∷ []) (y ∷ rest)) (get_or_at (before ++ (x ∷ [])) y rest 0 (n + 1) (simp length-append (omega arith))),
)
found_two ws before rest false x y n e l = (refl, refl)

-- the trailer, the last word of the size
found_last : (ws before rest : List ℕ) (t : Bool) (x size : ℕ) → ws ≡ before ++ (given t (x ∷ []) ++ rest) → length before + when t 1 ≡ size
    → word_if t (size - 1) ws ≡ when t x
unfolding word_if
found_last ws before rest true x size e l = found_one ws before rest true x (size - 1) e (omega arith)
found_last ws before rest false x size e l = refl

-- ---- the numbers of two words, back from the words

class_back : (t : Bool) (pad oui information code : ℕ) → class_fits t oui information code ≡ true
    → (bits 23 0 (when t (class_first pad oui)) ≡ when t oui)
    × (bits 31 16 (when t (class_word information code)) ≡ when t information) × (bits 15 0 (when t (class_word information code)) ≡ when t code)
unfolding class_fits class_first class_word join
class_back true pad oui information code e =
    let o = ltb-true oui (2 ^ 24) (both_left (ltb oui (2 ^ 24)) _ e) in
    let rest = both_right (ltb oui (2 ^ 24)) _ e in
    let i = ltb-true information (2 ^ 16) (both_left (ltb information (2 ^ 16)) _ rest) in
    let k = ltb-true code (2 ^ 16) (both_right (ltb information (2 ^ 16)) _ rest) in
    (omega arith, omega arith, omega arith)
class_back false pad oui information code e = (refl, refl, refl)

-- a plain class has no pad count, and that of 49A comes back
plain_back : (t : Bool) (oui information code : ℕ) → class_fits t oui information code ≡ true → bits 31 24 (when t (class_first 0 oui)) ≡ 0
unfolding class_fits class_first join
plain_back true oui information code e = let o = ltb-true oui (2 ^ 24) (both_left (ltb oui (2 ^ 24)) _ e) in omega arith
plain_back false oui information code e = refl

pad_back : (t : Bool) (oui information code pad : ℕ) → class_fits t oui information code ≡ true → t ≡ true → pad < 32
    → pad_of (when t (class_first pad oui)) ≡ pad
unfolding class_fits class_first join
pad_back t oui information code pad e y h =
    let o = ltb-true oui (2 ^ 24) (both_left (ltb oui (2 ^ 24)) _ (rw y at e)) in
    rw y (omega arith)

fraction_back : (t : Bool) (fraction : ℕ) → high_first (when t (fraction / 2 ^ 32)) (when t (fraction % 2 ^ 32)) ≡ when t fraction
fraction_back true fraction = omega arith
fraction_back false fraction = refl

-- ---- tests that a packet to be written passed, and that it passes when it is read

time_back : (t : Bool) (tsf fraction : ℕ) → time_over tsf fraction ≡ false → time_over tsf (when t fraction) ≡ false
unfolding time_over
time_back true tsf fraction e = e
time_back false tsf fraction e = both_no (eqb tsf 2)

-- ---- a packet that may be written, followed by any words
module _ (survey : Bool) (count : ℕ) (p : Parts) (body more : List ℕ) (room at : ℕ) (may : Writable survey count p body room at) where
  -- the pad count that is written
  abbrev pad : ℕ
  pad = pad_for survey count p

  abbrev size : ℕ
  size = size_for p (length body)

  abbrev W : ℕ
  W = header_word p size

  abbrev Ws : List ℕ
  Ws = packet_words pad p body ++ more

  can : Layable pad p body room at
  can = layable survey count p body room at may

  fits : Fits p
  fits = parts_fit_lem p may.fit

  class_fits_lem : class_fits (classed W) p.oui p.information p.code ≡ true
  class_fits_lem = rw (classed_is p size may.kind fits may.small) fits.class

  first_is : get_or Ws 0 0 ≡ W
  unfolding packet_words prologue_words leading_words
  first_is = refl

  identifier_back : word_if (streamed W) 1 Ws ≡ when (streamed W) p.identifier
  unfolding packet_words prologue_words leading_words
  identifier_back =
      found_one Ws (W ∷ []) (class_words pad W p ++ (time_words W p ++ (body ++ (trailer_words W p ++ more))))
      (streamed W) p.identifier 1 (simp append_assoc) refl

  head_at : length (leading_words W p) ≡ class_at W
  unfolding class_at
  head_at = head_length W p

  class_words_back : (class_high W Ws ≡ when (classed W) (class_first pad p.oui)) × (class_low W Ws ≡ when (classed W) (class_word p.information p.code))
  unfolding class_high class_low packet_words prologue_words class_words
  class_words_back =
      found_two Ws (leading_words W p) (time_words W p ++ (body ++ (trailer_words W p ++ more))) (classed W) (class_first pad p.oui)
      (class_word p.information p.code) (class_at W) (simp append_assoc) head_at

  class_at_lem : length (leading_words W p ++ class_words pad W p) ≡ seconds_at W
  unfolding seconds_at
  class_at_lem = simp length-append (omega (arith, head_at, class_length W p pad))

  seconds_back : word_if (has_seconds W) (seconds_at W) Ws ≡ when (has_seconds W) p.seconds
  unfolding packet_words prologue_words time_words
  seconds_back =
      found_one Ws (leading_words W p ++ class_words pad W p)
      (given (has_fraction W) (p.fraction / 2 ^ 32 ∷ p.fraction % 2 ^ 32 ∷ []) ++ (body ++ (trailer_words W p ++ more)))
      (has_seconds W) p.seconds (seconds_at W) (simp append_assoc) class_at_lem

  seconds_at_lem : length (leading_words W p ++ class_words pad W p ++ given (has_seconds W) (p.seconds ∷ [])) ≡ fraction_at W
  unfolding fraction_at
  seconds_at_lem =
      length-append (leading_words W p ++ class_words pad W p) (given (has_seconds W) (p.seconds ∷ []))
      ∙ omega (arith, class_at_lem, length_given (has_seconds W) (p.seconds ∷ []))

  fraction_words_back : (word_if (has_fraction W) (fraction_at W) Ws ≡ when (has_fraction W) (p.fraction / 2 ^ 32))
      × (word_if (has_fraction W) (fraction_at W + 1) Ws ≡ when (has_fraction W) (p.fraction % 2 ^ 32))
  unfolding packet_words prologue_words time_words
  fraction_words_back =
      found_two Ws (leading_words W p ++ class_words pad W p ++ given (has_seconds W) (p.seconds ∷ [])) (body ++ (trailer_words W p ++ more))
      (has_fraction W) (p.fraction / 2 ^ 32) (p.fraction % 2 ^ 32) (fraction_at W) (simp append_assoc) seconds_at_lem

  fraction_is : fraction_of W Ws ≡ when (has_fraction W) p.fraction
  unfolding fraction_of
  fraction_is = rw (fraction_words_back.0, fraction_words_back.1) (fraction_back (has_fraction W) p.fraction)

  size_parts : size ≡ body_at W + length body + when (trailed W) 1
  size_parts = size_for_is p size may.kind fits may.small (length body)

  size_of_lem : size_of W ≡ size
  size_of_lem = size_is p size may.kind fits may.small

  trailer_back_lem : word_if (trailed W) (size_of W - 1) Ws ≡ when (trailed W) p.trailer
  unfolding packet_words trailer_words
  trailer_back_lem =
      found_last Ws (prologue_words pad W p ++ body) more (trailed W) p.trailer (size_of W) (simp append_assoc)
      (rw (length-append (prologue_words pad W p) body, prologue_length W p pad, size_of_lem) (sym size_parts))

  parts_back : parts_of W Ws ≡ plain_parts W p
  unfolding parts_of plain_parts
  parts_back =
      let c = class_back (classed W) pad p.oui p.information p.code class_fits_lem in
      let k = may.kind in
      let z = may.small in
      rw (identifier_back, class_words_back.0, class_words_back.1, c.0, c.1, c.2, seconds_back, fraction_is, trailer_back_lem)
      (rw (type_is p size k fits z, trailed_is p size k fits z, tsm_is p size k fits z, tsi_is p size k fits z)
      (rw (tsf_is p size k fits z, count_is p size k fits z, classed_is p size k fits z)))

  length_back : body_length W ≡ length body
  unfolding body_length
  length_back = rw size_of_lem (omega (arith, size_parts))

  -- the body is found where it was laid
  pub body_back : part (body_at W) (length body) Ws ≡ body
  unfolding part packet_words
  body_back =
      ap (λ (l : List ℕ). take (length body) (drop (body_at W) l)) {x = Ws}
      {y = prologue_words pad W p ++ (body ++ (trailer_words W p ++ more))} (simp append_assoc)
      ∙ ap (take (length body)) (drop_at (prologue_words pad W p) (body ++ (trailer_words W p ++ more)) (body_at W) (prologue_length W p pad))
      ∙ take_at body (trailer_words W p ++ more) (length body) refl

  -- nothing refuses it
  header_passes : header_checks W ≡ accepted tt
  unfolding header_checks
  header_passes =
      rw (type_is p size may.kind fits may.small, le-ltb 5 p.kind (omega (arith, may.kind)), reserved_is p size may.kind fits may.small)

  size_passes : size_checks W (length Ws) ≡ accepted tt
  unfolding size_checks
  size_passes =
      let whole : required_of W ≤ size = omega (arith, required_is p size may.kind fits may.small, may.whole) in
      let long : size ≤ length Ws = omega (arith, length-append (packet_words pad p body) more, packet_length pad p body room at can) in
      rw (size_of_lem, le-ltb size (required_of W) whole, le-ltb (length Ws) size long)

  governed_is : governed survey W ≡ governs survey p
  governed_is = rw (type_is p size may.kind fits may.small)

  class_by : (t : Bool) → class_bad t (when (classed W) (class_first (when t count) p.oui)) ≡ false
  unfolding class_bad
  class_by true = refl
  class_by false = rw (plain_back (classed W) p.oui p.information p.code class_fits_lem)

  class_passes : class_bad (governed survey W) (class_high W Ws) ≡ false
  class_passes = rw (governed_is, class_words_back.0) (class_by (governs survey p))

  prologue_passes : prologue_checks (governed survey W) W Ws ≡ accepted tt
  unfolding prologue_checks
  prologue_passes =
      rw (class_passes, fraction_is, tsf_is p size may.kind fits may.small, time_back (has_fraction W) p.tsf p.fraction may.time)

  -- where 49A governs, the class is there, and the pad count fits
  module _ (g : governs survey p ≡ true) where
    not_pad : pad_bad p.classed p.trailed (class_first count p.oui) (class_word p.information p.code) (length body) ≡ false
    unfolding written.pad_checks
    not_pad = rw g at (first_passed (only_where (governs survey p) (pad_list count p body)) _ tt may.payload).0.0

    class_there : classed W ≡ true
    class_there = classed_is p size may.kind fits may.small ∙ pad_classed _ _ _ _ _ not_pad

    count_small : count < 32
    unfolding pad_fits
    count_small = ltb-true count 32 (rw (g, pad_classed _ _ _ _ _ not_pad) at may.pad_fit)

    pad_found : pad_bad (classed W) (trailed W) (class_high W Ws) (class_low W Ws) (body_length W) ≡ false
    pad_found =
        rw (class_words_back.0, class_words_back.1, class_there, g, length_back, trailed_is p size may.kind fits may.small)
        (rw (pad_classed _ _ _ _ _ not_pad) at not_pad)

  pad_by : (t : Bool) → governs survey p ≡ t → both t (pad_bad (classed W) (trailed W) (class_high W Ws) (class_low W Ws) (body_length W)) ≡ false
  pad_by true g = pad_found g
  pad_by false g = refl

  pad_passes : pad_checks survey W Ws ≡ accepted tt
  unfolding pad_checks
  pad_passes = rw (governed_is, pad_by (governs survey p) refl)

  -- the pad count is read back
  pub count_back : when (governed survey W) (pad_of (class_high W Ws)) ≡ pad
  count_back =
      rw (governed_is, class_words_back.0)
      (⊎_elim
      (λ (g : governs survey p ≡ true). rw g (pad_back (classed W) p.oui p.information p.code count class_fits_lem (class_there g) (count_small g)))
      (λ (g : governs survey p ≡ false). rw g) (true_or_false (governs survey p)))

  body_is : body_of W Ws ≡ body
  unfolding body_of
  body_is = rw length_back body_back

  pub checks_back : Passed survey W Ws
  checks_back = record {
    header = header_passes;
    size = size_passes;
    prologue = prologue_passes;
    body = rw (body_is, type_is p size may.kind fits may.small) may.context;
    pad = pad_passes;
  }

  -- it is read back, absent parts zero
  pub read_back : read_by survey Ws ≡ accepted (record { parts = plain_parts W p; size = size; place = body_at W; length = length body })
  unfolding packet_of
  read_back =
      let some : 0 < length Ws = omega (
        arith,
        length-append (packet_words pad p body) more,
        packet_length pad p body room at can,
        size_parts,
        body_past W,
      ) in
      accepts_read survey Ws _ some (rw first_is checks_back) (rw (first_is, parts_back, size_of_lem, length_back))

-- ---- what writing leaves, read from its place on
back_by : (survey : Bool) (count : ℕ) (p : Parts) (body out : List ℕ) (at : ℕ) (d : Done ℕ (List ℕ)) → write_by survey count p body out at ≡ accepted d
    → let w = header_word p (size_for p (length body)) in
    let ws = drop at d.leaves in
    (read_by survey ws ≡ accepted (record { parts = plain_parts w p; size = d.says; place = body_at w; length = length body }))
    × (get_or ws 0 0 ≡ w) × (when (governed survey w) (pad_of (class_high w ws)) ≡ pad_for survey count p)
    × (part (body_at w) (length body) ws ≡ body)
unfolding write_by write_checks
back_by survey count p body out at d e =
    let size = size_for p (length body) in
    let words = packet_words (pad_for survey count p) p body in
    let more = drop (at + size) out in
    let k = first_passed (write_list_by survey count p body (length out) at) _ d e in
    let may = writable survey count p body (length out) at (none_given (write_list_by survey count p body (length out) at) _ k.0) in
    let done = accepted_same k.1 in
    let past : drop at (take at out ++ words ++ more) ≡ words ++ more =
    ap (drop at) (append_assoc (take at out) words more) ∙ drop_at (take at out) (words ++ more) at (length-take-le at out (omega (arith, may.inside))) in
    rw (← done, past) (
      read_back survey count p body more (length out) at may,
      first_is survey count p body more (length out) at may,
      count_back survey count p body more (length out) at may,
      body_back survey count p body more (length out) at may,
    )

-- ---- by either choice

pub written_back : (survey : Bool) (pad : ℕ) (p : Parts) (body out : List ℕ) (at : ℕ) (d : Done ℕ (List ℕ))
    → writes_by ours survey pad p body out at ≡ accepted d
    → let w = header_word p (size_for p (length body)) in
    (reads_by ours survey (drop at d.leaves)
    ≡ accepted (record { parts = plain_parts w p; size = d.says; place = body_at w; length = length body }, pad_for survey pad p))
    × (part (body_at w) (length body) (drop at d.leaves) ≡ body)
unfolding survey_of read_told survey_told
written_back false pad p body out at d e =
    let k = back_by false 0 p body out at d e in
    (rw k.0, k.3)
written_back true pad p body out at d e =
    let k = back_by true pad p body out at d e in
    let ws = drop at d.leaves in
    let read = (read_accepts true ws _ k.0).says in
    (rw (survey_same ws, k.0, read, k.1, k.2), k.3)
