-- What the checks of a packet found, as a caller has it.
use Rattle.words.proofs.Kit.{◌≡◌, refl, sym, ap, ◌∙◌, Bool, true, false, List, ℕ, ◌<◌, arith, length, get_or}
use Rattle.words.specs.Outcome.{refused, accepted, after}
use Rattle.packet.specs.Header.{type_of}
use Rattle.packet.specs.Read.{read_by}
use Rattle.packet.specs.Parts.{body_of}
use Rattle.packet.specs.inner.Steps.{sized_checks, prologue_checks, body_checks, rest_checks}
use Rattle.packet.proofs.FrontLaws.{sized_some, sized_refuses, rest_refuses, rest_accepted, rest_steps, rest_plain, rest_other}
use Rattle.play.specs.Play.{chosen}
use Rattle.play.specs.inner.Entered.{Sized, Headed, sought_in, chosen_at}
use Rattle.play.proofs.StreamLaws.{alike_found, alike_none}

module _ (ws : List ℕ) where
  pub unread_sized : (survey : Bool) (n : ℕ) → refused n ≡ sized_checks ws → read_by survey ws ≡ refused n
  unread_sized survey n e = sized_refuses survey ws n (sym e)

  module _ (fine : accepted tt ≡ sized_checks ws) where
    pub has_header : 0 < length ws
    has_header = sized_some ws (sym fine)

    pub is_sized : Sized (get_or ws 0 0) ws
    is_sized = record { header = refl; passes = sym fine }

-- ---- what is left of reading, of a packet whose header and size are right

module _ (w : ℕ) (ws t : List ℕ) (p : Sized w ws) where
  unread_rest : (n : ℕ) → refused n ≡ rest_checks (chosen t ws) w ws → read_by (chosen t ws) ws ≡ refused n
  unread_rest n e = rest_refuses (chosen t ws) ws p.passes n (rw p.header at (sym e))

  headed_rest : accepted tt ≡ rest_checks (chosen t ws) w ws → Headed w ws t
  headed_rest e = record { header = p.header; reads = rw p.header (rest_accepted (chosen t ws) ws p.passes (rw p.header at (sym e))) }

  -- of a stream for which 49A is chosen
  module _ (s : ℕ) (f : sought_in w ws t ≡ accepted s) (c : chosen_at s t ≡ true) where
    surveyed : rest_checks true w ws ≡ rest_checks (chosen t ws) w ws
    surveyed = rw c at (alike_found w ws t p.header s f)

    pub unread_survey : (n : ℕ) → refused n ≡ rest_checks true w ws → read_by (chosen t ws) ws ≡ refused n
    unread_survey n e = unread_rest n (e ∙ surveyed)

    pub headed_survey : accepted tt ≡ rest_checks true w ws → Headed w ws t
    headed_survey e = headed_rest (e ∙ surveyed)

  -- of a type other than 4, plain: its prologue is all that is left
  module _ (other : type_of w ≡ 4 → ⊥) where
    -- of a stream for which 49A is not chosen
    module _ (s : ℕ) (f : accepted s ≡ sought_in w ws t) (b : Bool) (c : b ≡ chosen_at s t) (no : b ≡ false) where
      plainly : prologue_checks false w ws ≡ rest_checks (chosen t ws) w ws
      plainly = sym (rest_plain w ws false other refl) ∙ rw (sym c ∙ no) at (alike_found w ws t p.header s (sym f))

      pub unread_data : (n : ℕ) → refused n ≡ prologue_checks false w ws → read_by (chosen t ws) ws ≡ refused n
      unread_data n e = unread_rest n (e ∙ plainly)

      pub headed_data : accepted tt ≡ prologue_checks false w ws → Headed w ws t
      headed_data e = headed_rest (e ∙ plainly)

    -- of no stream
    module _ (k : ℕ) (f : refused k ≡ sought_in w ws t) where
      undeclared : prologue_checks false w ws ≡ rest_checks (chosen t ws) w ws
      undeclared = sym (rest_plain w ws false other refl) ∙ alike_none w ws t p.header k (sym f)

      pub unread_plain : (n : ℕ) → refused n ≡ prologue_checks false w ws → read_by (chosen t ws) ws ≡ refused n
      unread_plain n e = unread_rest n (e ∙ undeclared)

      pub headed_plain : accepted tt ≡ prologue_checks false w ws → Headed w ws t
      headed_plain e = headed_rest (e ∙ undeclared)

  -- of type 4, which no choice governs: the prologue, and then the body
  module _ (four : type_of w ≡ 4) where
    context : rest_checks (chosen t ws) w ws ≡ after (prologue_checks false w ws) (body_checks (type_of w) (body_of w ws))
    context = rest_other w ws (chosen t ws) (λ one. omega (arith, four, one)) ∙ rest_steps w ws

    pub unread_prologue : (n : ℕ) → refused n ≡ prologue_checks false w ws → read_by (chosen t ws) ws ≡ refused n
    unread_prologue n e = unread_rest n (rw (context, ← e))

    module _ (fine : accepted tt ≡ prologue_checks false w ws) where
      pub unread_body : (n : ℕ) → refused n ≡ body_checks (type_of w) (body_of w ws) → read_by (chosen t ws) ws ≡ refused n
      unread_body n e = unread_rest n (rw (context, ← fine) e)

      pub headed_context : accepted tt ≡ body_checks (type_of w) (body_of w ws) → Headed w ws t
      headed_context e = headed_rest (rw (context, ← fine) e)
