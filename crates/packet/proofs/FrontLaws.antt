-- Reading in two steps: header and size, and then the rest. The idea: the list of reading is that of the first step and then that of the second
-- (`read_rest`); so a program that asks the header first, and then what is left by the packet's type and by the choice of 49A, finds what reading answers.
use Rattle.words.proofs.Kit.{◌≡◌, sym, ap, ◌∙◌, Bool, true, false, List, [], ◌∷◌, ◌++◌, ℕ, ◌≤◌, ◌<◌, arith, eqb-true, ltb-false, ne_eqb}
use Rattle.words.proofs.Kit.{not-false, eqb, length, get_or}
use borrow.Author.Tests.{eqb-false}
use Rattle.words.specs.Tests.{both}
use Rattle.words.specs.Outcome.{Outcome, refused, accepted, after, onward}
use Rattle.words.specs.Refusals.{Refusals, first_given}
use Rattle.words.proofs.Cases.{both_no}
use Rattle.words.proofs.RefusalLaws.{None, first_passed, after_first, onward_first}
use Rattle.packet.specs.declared.Packet.{Packet}
use Rattle.packet.specs.declared.Survey.{Survey}
use Rattle.packet.specs.Header.{type_of, reserved_of, size_of}
use Rattle.packet.specs.Parts.{required_of, class_high, class_low, body_of, packet_of}
use Rattle.packet.specs.Read.{header_list, prologue_list, sized_list, list_by, read_by, read_of}
use Rattle.packet.specs.Survey.{survey_of, read_survey_of}
use Rattle.packet.specs.inner.Steps.{header_checks, size_checks, prologue_checks, body_checks, sized_checks}
use Rattle.packet.specs.inner.Steps.{payload_checks, governed_checks, rest_list, rest_checks}

-- ---- the two steps

-- none of two lists, one after the other, applies
pub none_split : (rs ss : Refusals) → None (rs ++ ss) → None rs × None ss
none_split [] ss h = (tt, h)
none_split (r ∷ rs) ss h = let t = none_split rs ss h.1 in ((h.0, t.0), t.1)

-- of words that are there, the header and then the size
pub sized_checks_lem : (ws : List ℕ) → (length ws ≡ 0 → ⊥) → sized_checks ws ≡ after (header_checks (get_or ws 0 0)) (size_checks (get_or ws 0 0) (length ws))
unfolding sized_checks header_checks size_checks
sized_checks_lem ws d = rw (ne_eqb (length ws) 0 d) (sym (after_first (header_list (get_or ws 0 0)) tt _))

module _ (survey : Bool) (ws : List ℕ) where
  abbrev header : ℕ
  header = get_or ws 0 0

  pub read_rest : read_by survey ws ≡ after (sized_checks ws) (after (rest_checks survey (get_or ws 0 0) ws) (accepted (packet_of (get_or ws 0 0) ws)))
  unfolding read_by sized_checks rest_checks
  read_rest =
      sym (after_first (sized_list header ws) tt _ ∙ ap (first_given (sized_list header ws)) (after_first (rest_list survey header ws) tt _))

  pub sized_refuses : (n : ℕ) → sized_checks ws ≡ refused n → read_by survey ws ≡ refused n
  sized_refuses n e = rw (read_rest, e)

  module _ (e : sized_checks ws ≡ accepted tt) where
    pub rest_refuses : (n : ℕ) → rest_checks survey (get_or ws 0 0) ws ≡ refused n → read_by survey ws ≡ refused n
    rest_refuses n r = rw (read_rest, e, r)

    pub rest_accepted : rest_checks survey (get_or ws 0 0) ws ≡ accepted tt → read_by survey ws ≡ accepted (packet_of (get_or ws 0 0) ws)
    rest_accepted r = rw (read_rest, e, r)

-- ---- what the first step says of the words

module _ (ws : List ℕ) (e : sized_checks ws ≡ accepted tt) where
  sized_none : None (sized_list (get_or ws 0 0) ws)
  unfolding sized_checks
  sized_none = (first_passed (sized_list (get_or ws 0 0) ws) _ tt e).0

  -- there is a header, and the packet fits
  pub sized_some : 0 < length ws
  sized_some = let n = eqb-false (length ws) 0 sized_none.0 in omega (arith, n)

  pub sized_fits : (required_of (get_or ws 0 0) ≤ size_of (get_or ws 0 0)) × (size_of (get_or ws 0 0) ≤ length ws)
  sized_fits = let s = sized_none.1.1.1 in (ltb-false _ _ s.0, ltb-false _ _ s.1.0)

  -- no reserved bit is set
  pub sized_reserved : reserved_of (get_or ws 0 0) ≡ 0
  sized_reserved = eqb-true (reserved_of (get_or ws 0 0)) 0 (not-false _ sized_none.1.1.0)

-- ---- the second step, by the packet's type and by the choice

module _ (w : ℕ) (ws : List ℕ) where
  -- of a plain packet, the prologue and then the body
  pub rest_steps : rest_checks false w ws ≡ after (prologue_checks false w ws) (body_checks (type_of w) (body_of w ws))
  unfolding rest_checks prologue_checks body_checks
  rest_steps = sym (after_first (prologue_list false w ws) tt _)

  -- where 49A governs, the prologue without CLASS, and then PAD
  pub rest_governed : type_of w ≡ 1 → rest_checks true w ws ≡ governed_checks w ws
  unfolding rest_checks governed_checks
  rest_governed k = rw k

  pub governed_steps : governed_checks w ws ≡ after (prologue_checks true w ws) (payload_checks w (class_high w ws) (class_low w ws))
  unfolding governed_checks prologue_checks payload_checks
  governed_steps = sym (after_first (prologue_list true w ws) tt _)

  module _ (survey : Bool) where
    -- where it does not, and the type is not 4, the prologue alone
    pub rest_plain : (type_of w ≡ 4 → ⊥) → both survey (eqb (type_of w) 1) ≡ false → rest_checks survey w ws ≡ prologue_checks false w ws
    unfolding rest_checks prologue_checks
    rest_plain d g = rw (ne_eqb (type_of w) 4 d, g)

    -- 49A governs type 1 only
    pub rest_other : (type_of w ≡ 1 → ⊥) → rest_checks survey w ws ≡ rest_checks false w ws
    unfolding rest_checks
    rest_other d = rw (ne_eqb (type_of w) 1 d, both_no survey)

pub survey_other : (survey : Bool) (ws : List ℕ) → (type_of (get_or ws 0 0) ≡ 1 → ⊥) → read_by survey ws ≡ read_of ws
survey_other survey ws d = read_rest survey ws ∙ rw (rest_other (get_or ws 0 0) ws survey d) (sym (read_rest false ws))

-- ---- a reading that follows 49A gives more of the packet that reading by that choice accepts

module _ (ws : List ℕ) where
  pub survey_same : read_survey_of ws ≡ onward (read_by true ws) (λ _. accepted (survey_of (get_or ws 0 0) ws))
  unfolding read_survey_of read_by
  survey_same = sym (onward_first (list_by true (get_or ws 0 0) ws) (packet_of (get_or ws 0 0) ws) (λ _. accepted (survey_of (get_or ws 0 0) ws)))

  pub survey_refused : (n : ℕ) → refused n ≡ read_by true ws → refused n ≡ read_survey_of ws
  survey_refused n e = rw (survey_same, ← e)

  pub survey_given_lem : (s : Survey) → s ≡ survey_of (get_or ws 0 0) ws → read_by true ws ≡ accepted (packet_of (get_or ws 0 0) ws) → accepted s
      ≡ read_survey_of ws
  survey_given_lem s q e = rw (survey_same, e, q)

  pub survey_read : read_by true ws ≡ onward (read_survey_of ws) (λ (s : Survey). accepted s.packet)
  unfolding read_survey_of read_by survey_of
  survey_read = sym (onward_first (list_by true (get_or ws 0 0) ws) (survey_of (get_or ws 0 0) ws) (λ (s : Survey). accepted s.packet))

  pub survey_unread : (n : ℕ) → read_survey_of ws ≡ refused n → read_by true ws ≡ refused n
  survey_unread n e = survey_read ∙ rw e

-- ---- the steps as the code asks them: what a step refuses ends the chain, and where it finds nothing the rest decides

module _ (w : ℕ) (ws : List ℕ) where
  -- the prologue and the body of a plain packet
  pub prologue_refused : (n : ℕ) → refused n ≡ prologue_checks false w ws → refused n ≡ rest_checks false w ws
  prologue_refused n e = rw (rest_steps w ws, ← e)

  pub body_asked : (o : Outcome Unit) → accepted tt ≡ prologue_checks false w ws → o ≡ body_checks (type_of w) (body_of w ws) → o ≡ rest_checks false w ws
  body_asked o f e = rw (rest_steps w ws, ← f) e

  -- the prologue of a packet that 49A governs, and then its payload
  pub governed_refused : (n : ℕ) → refused n ≡ prologue_checks true w ws → refused n ≡ governed_checks w ws
  governed_refused n e = rw (governed_steps w ws, ← e)

  pub payload_asked : (o : Outcome Unit) (high low : ℕ) → accepted tt ≡ prologue_checks true w ws → high ≡ class_high w ws → low ≡ class_low w ws
      → o ≡ payload_checks w high low → o ≡ governed_checks w ws
  payload_asked o high low f h g e = rw (governed_steps w ws, ← f, ← h, ← g) e

  -- what is left of a packet that it governs, and of one that it does not
  module _ (kind : ℕ) (k : kind ≡ type_of w) (o : Outcome Unit) where
    pub governed_asked : kind ≡ 1 → o ≡ governed_checks w ws → o ≡ rest_checks true w ws
    governed_asked one e = rw (rest_governed w ws (sym k ∙ one)) e

    pub plain_asked : (kind ≡ 1 → ⊥) → o ≡ rest_checks false w ws → o ≡ rest_checks true w ws
    plain_asked d e = rw (rest_other w ws true (λ one. d (k ∙ one))) e

-- header and size first
module _ (ws : List ℕ) where
  pub header_refused : (length ws ≡ 0 → ⊥) → (n : ℕ) → refused n ≡ header_checks (get_or ws 0 0) → refused n ≡ sized_checks ws
  header_refused d n e = rw (sized_checks_lem ws d, ← e)

  pub size_asked : (length ws ≡ 0 → ⊥) → (o : Outcome Unit) → accepted tt ≡ header_checks (get_or ws 0 0) → o ≡ size_checks (get_or ws 0 0) (length ws)
      → o ≡ sized_checks ws
  size_asked d o f e = rw (sized_checks_lem ws d, ← f) e

  pub refused_first : (survey : Bool) (n : ℕ) → refused n ≡ sized_checks ws → refused n ≡ read_by survey ws
  refused_first survey n e = sym (sized_refuses survey ws n (sym e))

  module _ (fine : accepted tt ≡ sized_checks ws) where
    pub header_there : 0 < length ws
    header_there = sized_some ws (sym fine)

    pub required_fits : required_of (get_or ws 0 0) ≤ size_of (get_or ws 0 0)
    required_fits = (sized_fits ws (sym fine)).0

    pub size_fits : size_of (get_or ws 0 0) ≤ length ws
    size_fits = (sized_fits ws (sym fine)).1

    pub none_reserved : reserved_of (get_or ws 0 0) ≡ 0
    none_reserved = sized_reserved ws (sym fine)

    module _ (survey : Bool) where
      pub refused_then : (n : ℕ) → refused n ≡ rest_checks survey (get_or ws 0 0) ws → refused n ≡ read_by survey ws
      refused_then n e = sym (rest_refuses survey ws (sym fine) n (sym e))

      module _ (e : accepted tt ≡ rest_checks survey (get_or ws 0 0) ws) where
        pub accepted_then : read_by survey ws ≡ accepted (packet_of (get_or ws 0 0) ws)
        accepted_then = rest_accepted survey ws (sym fine) (sym e)

        pub packet_given : (p : Packet) → p ≡ packet_of (get_or ws 0 0) ws → accepted p ≡ read_by survey ws
        packet_given p q = rw q (sym accepted_then)
