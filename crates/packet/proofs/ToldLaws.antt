-- Where a packet is refused. The idea: each number is a line of `where_of`; and what reading answers is told where by its number alone.
use Rattle.words.proofs.Kit.{◌≡◌, sym, ◌∙◌, true, false, List, ℕ, ◌+◌, ◌-◌, arith, ne_eqb, eqb}
use Rattle.words.proofs.Kit.{take, drop}
use Rattle.words.specs.declared.refusals.Refusal.{Refusal}
use Rattle.words.specs.declared.refusals.Refusal.TheVariants as refusals
use Rattle.words.specs.declared.Where.{Where}
use Rattle.words.specs.declared.Where.TheVariants.{Nowhere}
use Rattle.words.specs.Listed.{list_number, IsListed}
use Rattle.words.specs.Outcome.{refused, accepted}
use Rattle.words.specs.Told.{refusal, place_further}
use Rattle.words.proofs.PartLaws.{seen}
use Rattle.words.proofs.ToldLaws.{told_accepted}
use Rattle.fields.specs.Broken.{broken_of}
use Rattle.packet.specs.declared.Packet.{Packet}
use Rattle.packet.specs.declared.Survey.{Survey}
use Rattle.packet.specs.Parts.{body_at, body_length, body_of}
use Rattle.packet.specs.Read.{read_of}
use Rattle.packet.specs.Survey.{read_survey_of}
use Rattle.packet.specs.Told.{where_of, read_told, survey_told}
use Rattle.packet.specs.inner.Steps.{FieldFits}
use Rattle.packet.proofs.FrontLaws.{survey_unread}
use Rattle.packet.proofs.InsideLaws.{placeable}

-- a number that is not in the list has no place
pub where_unlisted : (ws : List ℕ) (n : ℕ) → (IsListed n → ⊥) → Nowhere ≡ where_of ws n
unfolding where_of
where_unlisted ws n none =
    let other : (k : Refusal) → eqb n (list_number k) ≡ false = λ k. ne_eqb n (list_number k) (λ e. none (k, sym e)) in
    rw (
      other refusals.Empty,
      other refusals.Kind,
      other refusals.Bits,
      other refusals.Short,
      other refusals.Cut,
      other refusals.Class,
      other refusals.Time,
      other refusals.Indicator,
      other refusals.Layout,
      other refusals.Field,
      other refusals.Pad,
      other refusals.Stream,
    )

-- the body that is lent
pub broken_lent : (w at end : ℕ) (ws : List ℕ) (place r : Where) → at ≡ body_at w → end ≡ body_at w + body_length w
    → place ≡ broken_of (take (end - at) (drop at ws)) → r ≡ place_further at place → r ≡ place_further (body_at w) (broken_of (body_of w ws))
unfolding body_of
broken_lent w at end ws place r a e p q = q ∙ rw (p, seen at end (body_length w) ws (omega arith), a)

-- ---- what reading answers, with its places

module _ (ws : List ℕ) where
  -- FIELD is of a packet whose header and size are right
  pub read_fits : (n : ℕ) → refused n ≡ read_of ws → FieldFits n ws
  read_fits n e = (placeable ws false n (sym e)).field

  pub survey_fits : (n : ℕ) → refused n ≡ read_survey_of ws → FieldFits n ws
  survey_fits n e = (placeable ws true n (survey_unread ws n (sym e))).field

  pub read_refused : (n : ℕ) → refused n ≡ read_of ws → refused (refusal n (where_of ws n)) ≡ read_told ws
  unfolding read_told
  read_refused n e = rw (← e)

  pub read_given : (p : Packet) → accepted p ≡ read_of ws → accepted p ≡ read_told ws
  unfolding read_told
  read_given p e = rw (← e)

  pub survey_not_given : (n : ℕ) → refused n ≡ read_survey_of ws → refused (refusal n (where_of ws n)) ≡ survey_told ws
  unfolding survey_told
  survey_not_given n e = rw (← e)

  pub survey_given : (s : Survey) → accepted s ≡ read_survey_of ws → accepted s ≡ survey_told ws
  unfolding survey_told
  survey_given s e = rw (← e)

  -- an accepted packet is one without its places too
  pub told_packet : (p : Packet) → read_told ws ≡ accepted p → read_of ws ≡ accepted p
  unfolding read_told
  told_packet p e = told_accepted (where_of ws) (read_of ws) p e

  pub told_given : (s : Survey) → survey_told ws ≡ accepted s → read_survey_of ws ≡ accepted s
  unfolding survey_told
  told_given s e = told_accepted (where_of ws) (read_survey_of ws) s e
