-- What an accepted packet is: it passed every test of its list (`first_passed`), and so its parts lie inside the words, its body is as document 01 says, and
-- nothing past its size is looked at. Callers of `read` use these laws and not the definitions' text.
use Rattle.words.proofs.Kit.{◌≡◌, refl, ap, subst, ◌∙◌, List, ℕ, zero, suc, ◌+◌, ◌^◌, ◌≤◌, ◌<◌, arith, rules, eq-eqb, ne_eqb, ltb-false, eqb, length}
use Rattle.words.proofs.Kit.{get_or, Bool, false}
use native.Mathlib.Nat.{le_refl, mod-lt}
use borrow.Author.Tests.{eqb-false}
use Rattle.words.specs.Numbers.{STREAM}
use Rattle.words.specs.declared.refusals.Refusal.TheVariants as refusals
use Rattle.words.specs.Listed.{IsListed}
use Rattle.words.specs.Outcome.{refused, accepted}
use Rattle.words.specs.Refusals.{only_where}
use Rattle.words.specs.Part.{part}
use Rattle.words.proofs.Cases.{accepted_same}
use Rattle.words.proofs.RefusalLaws.{Numbers, Numbered, first_passed, none_given, number_among}
use Rattle.fields.specs.Layout.{context_of}
use Rattle.packet.specs.declared.Packet.{Packet}
use Rattle.packet.specs.Header.{type_of, size_of}
use Rattle.packet.specs.Parts.{required_of, parts_of, body_of, packet_of}
use Rattle.packet.specs.Read.{header_list, size_list, prologue_list, body_list, governed, pad_list, list_by, read_by}
use Rattle.packet.specs.inner.Steps.{header_checks, size_checks, prologue_checks, body_checks, pad_checks}
use Rattle.packet.proofs.RoomLaws.{Room, room}
use Rattle.packet.proofs.FrontLaws.{none_split}

pub sized : (w n : ℕ) → size_checks w n ≡ accepted tt → (required_of w ≤ size_of w) × (size_of w ≤ n)
unfolding size_checks
sized w n e = let s = (first_passed (size_list w n) _ tt e).0 in (ltb-false _ _ s.0, ltb-false _ _ s.1.0)

-- each group of checks found nothing
pub record Passed (survey : Bool) (w : ℕ) (ws : List ℕ) : Type 0 where
  pub header : header_checks w ≡ accepted tt
  pub size : size_checks w (length ws) ≡ accepted tt
  pub prologue : prologue_checks (governed survey w) w ws ≡ accepted tt
  pub body : body_checks (type_of w) (body_of w ws) ≡ accepted tt
  pub pad : pad_checks survey w ws ≡ accepted tt

-- ---- an accepted packet

-- what reading accepts: there are words, the checks found nothing, and the packet is what its words say
pub record Accepts (survey : Bool) (ws : List ℕ) (p : Packet) : Type 0 where
  pub some : 0 < length ws
  pub passes : Passed survey (get_or ws 0 0) ws
  pub says : packet_of (get_or ws 0 0) ws ≡ p

pub read_accepts : (survey : Bool) (ws : List ℕ) (p : Packet) → read_by survey ws ≡ accepted p → Accepts survey ws p
unfolding read_by header_checks size_checks prologue_checks body_checks pad_checks
read_accepts survey ws p e =
    let w = get_or ws 0 0 in
    let a = first_passed (list_by survey w ws) _ p e in
    let t = a.0.1 in
    let s = t.1.1 in
    let c = s.1.1 in
    let b = none_split (body_list (type_of w) (body_of w ws)) (only_where (governed survey w) (pad_list w ws)) c.1.1 in
    record {
      some = nonzero (length ws) a.0.0;
      passes = record {
        header = none_given (header_list w) _ (t.0, (t.1.0, tt));
        size = none_given (size_list w (length ws)) _ (s.0, (s.1.0, tt));
        prologue = none_given (prologue_list (governed survey w) w ws) _ (c.0, (c.1.0, tt));
        body = none_given (body_list (type_of w) (body_of w ws)) _ b.0;
        pad = none_given (only_where (governed survey w) (pad_list w ws)) _ b.1;
      };
      says = accepted_same a.1;
    }
  where
    nonzero : (n : ℕ) → eqb n 0 ≡ false → 0 < n
    nonzero zero e = absurd (eqb-false 0 0 e refl)
    nonzero (suc n) e = omega arith

-- and the other way round: words that pass are accepted
pub accepts_read : (survey : Bool) (ws : List ℕ) (p : Packet) → 0 < length ws → Passed survey (get_or ws 0 0) ws → packet_of (get_or ws 0 0) ws ≡ p
    → read_by survey ws ≡ accepted p
unfolding read_by header_checks size_checks prologue_checks body_checks pad_checks
accepts_read survey ws p h c e =
    let w = get_or ws 0 0 in
    let prologue = prologue_list (governed survey w) w ws in
    let pad = only_where (governed survey w) (pad_list w ws) in
    rw (ne_eqb (length ws) 0 (omega arith))
    (none_given (header_list w) _ (first_passed (header_list w) _ tt c.header).0
    ∙ none_given (size_list w (length ws)) _ (first_passed (size_list w (length ws)) _ tt c.size).0
    ∙ none_given prologue _ (first_passed prologue _ tt c.prologue).0
    ∙ none_given (body_list (type_of w) (body_of w ws)) _ (first_passed (body_list (type_of w) (body_of w ws)) _ tt c.body).0
    ∙ none_given pad _ (first_passed pad _ tt c.pad).0
    ∙ ap accepted e)

module _ (survey : Bool) (ws : List ℕ) (p : Packet) (e : read_by survey ws ≡ accepted p) where
  read_room : Room (get_or ws 0 0) (size_of (get_or ws 0 0))
  read_room = room _ _ (sized _ _ (read_accepts survey ws p e).passes.size).0 (le_refl _)

  -- the packet lies inside the words
  pub read_inside : p.size ≤ length ws
  unfolding packet_of
  read_inside = rw (← (read_accepts survey ws p e).says) (sized _ _ (read_accepts survey ws p e).passes.size).1

  -- its body lies inside it
  pub body_inside : p.place + p.length ≤ p.size
  unfolding packet_of
  body_inside = rw (← (read_accepts survey ws p e).says) read_room.body

  -- it has a header
  pub size_some : 1 ≤ p.size
  unfolding packet_of
  size_some = rw (← (read_accepts survey ws p e).says) read_room.header

  -- its count has four bits
  pub count_small : p.parts.count < 16
  unfolding packet_of parts_of
  count_small = rw (← (read_accepts survey ws p e).says) (mod-lt _ (omega arith))

  -- a type 4 body is as document 01 says: its layout and its rules hold
  pub body_context : p.parts.kind ≡ 4 → context_of (part p.place p.length ws) ≡ accepted tt
  unfolding packet_of parts_of body_of body_checks context_of
  body_context k =
      let a = read_accepts survey ws p e in
      let t : type_of (get_or ws 0 0) ≡ 4 = rw (← a.says) at k in
      rw (← a.says) (rw (eq-eqb _ _ t) at a.passes.body)

  -- its size has sixteen bits
  pub size_small : p.size < 2 ^ 16
  unfolding packet_of
  size_small = rw (← (read_accepts survey ws p e).says) (mod-lt _ (omega arith))

  -- and is what its header says
  pub size_said : p.size ≡ size_of (get_or ws 0 0)
  unfolding packet_of
  size_said = rw (← (read_accepts survey ws p e).says)

-- ---- the numbers of reading

-- a refusal's number is one of the list
pub read_listed : (survey : Bool) (ws : List ℕ) (n : ℕ) → read_by survey ws ≡ refused n → IsListed n
unfolding read_by
read_listed survey ws n e =
    let all : Numbers IsListed (list_by survey (get_or ws 0 0) ws) = (
      (refusals.Empty, refl),
      (
        (refusals.Kind, refl),
        (
          (refusals.Bits, refl),
          (
            (refusals.Short, refl),
            (
              (refusals.Cut, refl),
              (
                (refusals.Class, refl),
                ((refusals.Time, refl), ((refusals.Indicator, refl), ((refusals.Layout, refl), ((refusals.Field, refl), ((refusals.Pad, refl), tt))))),
              ),
            ),
          ),
        ),
      ),
    ) in
    subst (Numbered IsListed) e (number_among IsListed (list_by survey (get_or ws 0 0) ws) _ all tt)

-- a refusal's number is not STREAM's
pub read_number : (survey : Bool) (ws : List ℕ) (n : ℕ) → read_by survey ws ≡ refused n → n ≡ STREAM → ⊥
unfolding read_by
read_number survey ws n e =
    subst (Numbered (λ k. k ≡ STREAM → ⊥)) e (number_among (λ k. k ≡ STREAM → ⊥) (list_by survey (get_or ws 0 0) ws) _ (search rules) tt)
