-- What the checks of writing tell once they found nothing: each number fits its bits, and there is room.
use Rattle.words.proofs.Kit.{◌≡◌, refl, sym, ap, ◌∙◌, Bool, true, false, not, List, [], ◌∷◌, ◌++◌, ℕ, ◌+◌, ◌≤◌, ◌<◌, arith, ltb-false, not-false, ltb, length}
use borrow.Author.Tests.{ltb-true}
use Rattle.words.specs.Numbers.{TYPE, VALUE}
use Rattle.words.specs.Outcome.{Outcome, refused, accepted, Done, after}
use Rattle.words.specs.Tests.{pick, when, both}
use Rattle.words.specs.Refusals.{first_given, only_where}
use Rattle.words.proofs.Cases.{both_left, both_right}
use Rattle.words.proofs.RefusalLaws.{None, first_passed, none_given, after_first, first_fine}
use Rattle.packet.specs.declared.Parts.{Parts}
use Rattle.packet.specs.Parts.{required_of}
use Rattle.packet.specs.Read.{time_over, body_list}
use Rattle.packet.specs.inner.Steps.{body_checks}
use Rattle.packet.proofs.FrontLaws.{none_split}
use Rattle.packet_write.specs.Write.{header_word, size_for, codes_fit, flags_fit, class_fits, parts_fit, governs, pad_for, pad_fits, parts_list, measure_list}
use Rattle.packet_write.specs.Write.{pad_list, room_list, write_list_by, written_done, write_by}
use Rattle.packet_write.specs.inner.Given.{Layable, Governed}
use Rattle.packet_write.specs.inner.Steps.{plain_list, plain_checks, parts_checks, measure_checks, content_list, content_checks, pad_checks, room_checks}
use Rattle.packet_write.specs.inner.Steps.{write_checks}

-- the numbers of parts that fit
pub record Fits (p : Parts) : Type 0 where
  pub tsi : p.tsi < 4
  pub tsf : p.tsf < 4
  pub count : p.count < 16
  pub flags : flags_fit p.kind p.trailed p.tsm ≡ true
  pub class : class_fits p.classed p.oui p.information p.code ≡ true

pub parts_fit_lem : (p : Parts) → parts_fit p ≡ true → Fits p
unfolding parts_fit codes_fit
parts_fit_lem p e =
    let codes = both_left (codes_fit p.tsi p.tsf p.count) _ e in
    let rest = both_right (codes_fit p.tsi p.tsf p.count) _ e in
    let small = both_right (ltb p.tsi 4) _ codes in
    record {
      tsi = ltb-true _ _ (both_left (ltb p.tsi 4) _ codes);
      tsf = ltb-true _ _ (both_left (ltb p.tsf 4) _ small);
      count = ltb-true _ _ (both_right (ltb p.tsf 4) _ small);
      flags = both_left (flags_fit p.kind p.trailed p.tsm) _ rest;
      class = both_right (flags_fit p.kind p.trailed p.tsm) _ rest;
    }

-- the parts, whatever the pad count is
module _ (p : Parts) (e : plain_checks p ≡ accepted tt) where
  plain_none : None (plain_list p)
  unfolding plain_checks
  plain_none = (first_passed (plain_list p) _ tt e).0

  pub parts_kind : p.kind < 6
  parts_kind = omega (arith, ltb-false 5 p.kind plain_none.0)

  pub parts_fitting : parts_fit p ≡ true
  parts_fitting = not-false _ plain_none.1.0

module _ (survey : Bool) (pad : ℕ) (p : Parts) where
  -- with a pad count that fits they pass too
  parts_passed : plain_checks p ≡ accepted tt → pad_fits survey pad p ≡ true → parts_checks survey pad p ≡ accepted tt
  unfolding plain_checks parts_checks
  parts_passed e small = rw small e

  -- a pad count that fits has five bits, where there is a class for it
  pub pad_small : pad_fits survey pad p ≡ true → p.classed ≡ true → pad_for survey pad p < 32
  unfolding pad_fits
  pad_small e c = by_choice (governs survey p) (rw c at e)
    where
      by_choice : (t : Bool) → pick (both t true) (ltb pad 32) true ≡ true → when t pad < 32
      by_choice true e = ltb-true pad 32 e
      by_choice false e = omega arith

-- a packet that 49A does not govern: its pad count is not looked at
module _ (survey : Bool) (pad : ℕ) (p : Parts) (g : governs survey p ≡ false) where
  pub no_payload : (body : List ℕ) → accepted tt ≡ pad_checks survey pad p body
  unfolding pad_checks
  no_payload body = rw g

-- a packet that it governs
module _ (pad : ℕ) (p : Parts) (g : Governed pad p) where
  pub governed_pad : p.classed ≡ true → pad < 32
  governed_pad c = rw g.kind at (pad_small true pad p g.padding c)

  pub governed_class : class_fits p.classed p.oui p.information p.code ≡ true
  governed_class = (parts_fit_lem p g.fit).class

-- VALUE of the parts and VALUE of the pad count, one after the other
values_apart : (type pad fit : Bool) {A : Type 0} (rest : Outcome A) → first_given ((TYPE, type) ∷ (VALUE, not (both pad fit)) ∷ []) rest
    ≡ after (first_given {A = Unit} ((TYPE, type) ∷ (VALUE, not fit) ∷ []) (accepted tt)) (pick pad rest (refused VALUE))
values_apart true pad fit rest = refl
values_apart false true true rest = refl
values_apart false true false rest = refl
values_apart false false true rest = refl
values_apart false false false rest = refl

-- the list of writing is that of each group, one after the other
pub write_groups : (survey : Bool) (pad : ℕ) (p : Parts) (body out : List ℕ) (at : ℕ) → write_by survey pad p body out at
    ≡ after (plain_checks p)
    (pick (pad_fits survey pad p)
    (after (content_checks p body)
    (after (pad_checks survey pad p body)
    (after (room_checks (length out) at (size_for p (length body))) (accepted (written_done (pad_for survey pad p) p body out at)))))
    (refused VALUE))
unfolding write_by plain_checks content_checks pad_checks room_checks
write_groups survey pad p body out at =
    let content = content_list p body in
    let payload = only_where (governs survey p) (pad_list pad p body) in
    let room = room_list (length out) at (size_for p (length body)) in
    sym
    (ap (λ (o : Outcome (Done ℕ (List ℕ))). after (first_given (plain_list p) (accepted tt)) (pick (pad_fits survey pad p) o (refused VALUE)))
    (after_first content tt _ ∙ ap (first_given content) (after_first payload tt _ ∙ ap (first_given payload) (after_first room tt _)))
    ∙ sym (values_apart (ltb 5 p.kind) (pad_fits survey pad p) (parts_fit p) _))

-- each group of checks found nothing
module _ (survey : Bool) (pad : ℕ) (p : Parts) (body : List ℕ) (room at size : ℕ) where
  pub nothing_refused : parts_checks survey pad p ≡ accepted tt → measure_checks p (length body) ≡ accepted tt → body_checks p.kind body ≡ accepted tt
      → pad_checks survey pad p body ≡ accepted tt → size ≡ size_for p (length body) → room_checks room at size ≡ accepted tt
      → write_checks survey pad p body room at ≡ accepted tt
  unfolding write_checks parts_checks measure_checks body_checks pad_checks room_checks
  nothing_refused parts measure context padding e fits =
      first_fine (parts_list survey pad p) tt tt _ parts ∙ first_fine (measure_list p (length body)) tt tt _ measure
      ∙ first_fine (body_list p.kind body) tt tt _ context ∙ first_fine (only_where (governs survey p) (pad_list pad p body)) tt tt _ padding ∙ rw (← e) fits

  pub nothing_found : plain_checks p ≡ accepted tt → pad_fits survey pad p ≡ true → content_checks p body ≡ accepted tt → pad_checks survey pad p body
      ≡ accepted tt
      → size ≡ size_for p (length body) → room_checks room at size ≡ accepted tt → write_checks survey pad p body room at ≡ accepted tt
  unfolding content_checks measure_checks body_checks
  nothing_found parts small content padding e fits =
      let passed = first_passed (measure_list p (length body)) _ tt content in
      nothing_refused (parts_passed survey pad p parts small) (none_given (measure_list p (length body)) _ passed.0) passed.1 padding e fits

-- a packet that may be written
pub record Writable (survey : Bool) (pad : ℕ) (p : Parts) (body : List ℕ) (room at : ℕ) : Type 0 where
  pub kind : p.kind < 6
  pub fit : parts_fit p ≡ true
  pub pad_fit : pad_fits survey pad p ≡ true
  pub whole : required_of (header_word p 0) ≤ size_for p (length body)
  pub small : size_for p (length body) < 65536
  pub time : time_over p.tsf p.fraction ≡ false
  pub context : body_checks p.kind body ≡ accepted tt
  pub payload : pad_checks survey pad p body ≡ accepted tt
  pub inside : at + size_for p (length body) ≤ room

module _ (survey : Bool) (pad : ℕ) (p : Parts) (body : List ℕ) (room at : ℕ) where
  pub writable : write_checks survey pad p body room at ≡ accepted tt → Writable survey pad p body room at
  unfolding write_checks body_checks pad_checks
  writable e =
      let n = length body in
      let a = (first_passed (write_list_by survey pad p body room at) _ tt e).0 in
      let m = a.1.1 in
      let padding = only_where (governs survey p) (pad_list pad p body) in
      let c = none_split (body_list p.kind body) (padding ++ room_list room at (size_for p n)) m.1.1.1 in
      let l = none_split padding (room_list room at (size_for p n)) c.1 in
      record {
        kind = omega (arith, ltb-false 5 p.kind a.0);
        fit = both_right (pad_fits survey pad p) _ (not-false _ a.1.0);
        pad_fit = both_left (pad_fits survey pad p) _ (not-false _ a.1.0);
        whole = ltb-false _ _ m.0;
        small = omega (arith, ltb-false 65535 (size_for p n) m.1.0);
        time = m.1.1.0;
        context = none_given (body_list p.kind body) _ c.0;
        payload = none_given padding _ l.0;
        inside = ltb-false room (at + size_for p n) l.1.0;
      }

  -- and so may be laid, with the pad count that is written
  pub layable : Writable survey pad p body room at → Layable (pad_for survey pad p) p body room at
  layable may = record {
    kind = may.kind;
    fit = may.fit;
    padding = pad_small survey pad p may.pad_fit;
    small = may.small;
    inside = may.inside;
  }
