-- The number that is given of a refusal which is told where. The idea: its own number, the bit and the word fit their widths, since the place of a refusal lies
-- inside the packet (`place_small`); so they are the parts of the number, joined and split again.
use Rattle.words.proofs.Kit.{◌≡◌, subst, Bool, true, false, ⊎_elim, List, ℕ, ◌^◌, ◌<◌, arith, rules}
use Rattle.words.proofs.Kit.{get_or}
use lib.Pow.{shr-shr}
use Rattle.words.specs.Told.{RefusalTold}
use Rattle.words.specs.Numbers.{TABLE}
use Rattle.words.specs.Word.{bits, split, Within}
use Rattle.words.specs.Outcome.{refused}
use Rattle.words.specs.Told.{refusal, place_word, place_bit}
use Rattle.words.proofs.Cases.{when_most}
use Rattle.words.proofs.RefusalLaws.{Numbered, number_among}
use Rattle.words.proofs.ToldLaws.{told_refused}
use Rattle.words.proofs.WordLaws.{split_join}
use Rattle.packet.specs.Parts.{streamed}
use Rattle.packet.specs.Read.{list_by, read_by}
use Rattle.packet.specs.Survey.{read_survey_of}
use Rattle.packet.specs.Told.{where_of, read_told, survey_told}
use Rattle.packet.proofs.FrontLaws.{survey_unread}
use Rattle.packet.proofs.InsideLaws.{place_small, bit_small, stream_place, table_place}
use Rattle.play.specs.Play.{chosen, play_list, play_of, play_told}
use Rattle.play.proofs.PlayLaws.{play_unheard}
use Rattle.index_grow.specs.Grow.{grow_list, grow_of, grow_told}
use Rattle.index_grow.proofs.AnswerLaws.{grow_refused}
use Rattle.vrt49.specs.Answers.{refusal_parts, refusal_widths, number_for}

-- a refusal fits the number, and has one
pub record Fitting (r : RefusalTold) : Type 0 where
  pub some : 0 < r.number
  pub fits : Within refusal_widths (refusal_parts r)

-- its parts
pub number_parts : (r : RefusalTold) → Fitting r
    → (bits 7 0 (number_for r) ≡ r.number) × (bits 15 8 (number_for r) ≡ place_bit r.place) × (bits 31 16 (number_for r) ≡ place_word r.place)
unfolding number_for split
number_parts r f =
    let e : split refusal_widths (number_for r) ≡ refusal_parts r = split_join refusal_widths (refusal_parts r) f.fits in
    (cc, cc, rw (← shr-shr (number_for r) 8 8) (cc))

-- ---- what reading refuses

abbrev Small : ℕ → Type 0
Small n = (0 < n) × (n < 2 ^ 8)

module _ (ws : List ℕ) where
  -- of a number that has eight bits, at a word that has sixteen
  fitting : (n : ℕ) → Small n → place_word (where_of ws n) < 2 ^ 16 → Fitting (refusal n (where_of ws n))
  fitting n h g = record { some = h.0; fits = (h.1, (omega (arith, bit_small ws n), (g, tt))) }

  read_small : (survey : Bool) (n : ℕ) → read_by survey ws ≡ refused n → Fitting (refusal n (where_of ws n))
  unfolding read_by
  read_small survey n e =
      fitting n (subst (Numbered Small) e (number_among Small (list_by survey (get_or ws 0 0) ws) _ (search rules) tt)) (place_small ws survey n e)

  pub read_fitting : (r : RefusalTold) → read_told ws ≡ refused r → Fitting r
  unfolding read_told
  read_fitting r e = let k = told_refused (where_of ws) (read_by false ws) r e in rw k.2 (read_small false k.0 k.1)

  pub survey_fitting : (r : RefusalTold) → survey_told ws ≡ refused r → Fitting r
  unfolding survey_told
  survey_fitting r e =
      let k = told_refused (where_of ws) (read_survey_of ws) r e in
      rw k.2 (read_small true k.0 (survey_unread ws k.0 k.1))

-- ---- what playing refuses

module _ (t ws : List ℕ) where
  play_small : (n : ℕ) → play_of t ws ≡ refused n → place_word (where_of ws n) < 2 ^ 16
  play_small n e =
      ⊎_elim (λ (i : n ≡ TABLE). rw (i, table_place ws) (omega arith))
      (⊎_elim (λ (r : read_by (chosen t ws) ws ≡ refused n). place_small ws (chosen t ws) n r)
      (λ s. rw (s.0, stream_place ws) (omega (arith, when_most (streamed (get_or ws 0 0)) 1))))
      (play_unheard t ws n e)

  pub play_fitting : (r : RefusalTold) → play_told t ws ≡ refused r → Fitting r
  unfolding play_told play_of
  play_fitting r e =
      let k = told_refused (where_of ws) (play_of t ws) r e in
      let small = subst (Numbered Small) k.1 (number_among Small (play_list t ws) _ (search rules) tt) in
      rw k.2 (fitting ws k.0 small (play_small k.0 k.1))

-- ---- what growing refuses

pub grow_fitting : (t ws ix : List ℕ) (r : RefusalTold) → grow_told t ws ix ≡ refused r → Fitting r
unfolding grow_told grow_of
grow_fitting t ws ix r e =
    let k = told_refused (where_of ws) (grow_of t ws ix) r e in
    let small = subst (Numbered Small) k.1 (number_among Small (grow_list t ws ix) _ (search rules) tt) in
    let place : place_word (where_of ws k.0) < 2 ^ 16 =
    ⊎_elim (λ (u : read_by (chosen t ws) ws ≡ refused k.0). place_small ws (chosen t ws) k.0 u) (λ n. rw n.0 (omega arith))
    (grow_refused t ws ix k.0 k.1) in
    rw k.2 (fitting ws k.0 small place)
