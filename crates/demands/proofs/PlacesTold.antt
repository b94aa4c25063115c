-- Where a packet is refused. The idea: the place of a refusal follows from its number and the words (`told_refused`), and it lies inside the packet, since the
-- tests before the refusal were passed (`place_inside`); of FIELD it is that of the highest broken field (`broken_meant`).
use Rattle.words.proofs.Kit.{◌≡◌, refl, sym, ap, ◌∙◌, Bool, true, false, ⊎_elim, List, [], ◌∷◌, ℕ, ◌+◌, ◌<◌, arith, length, get_or}
use mathlib.Core.Logic.{◌⊎◌, inl, inr}
use Rattle.words.specs.declared.Where.TheVariants.{Nowhere, Field}
use Rattle.words.specs.Numbers.{EMPTY, FIELD, ROOM, TABLE, PAGE}
use Rattle.words.specs.Tests.{among}
use Rattle.words.specs.Outcome.{refused}
use Rattle.words.specs.Told.{refusal}
use Rattle.words.proofs.Cases.{true_is_false}
use Rattle.words.proofs.ToldLaws.{told_refused}
use Rattle.fields.specs.Broken.{broken_of}
use Rattle.fields.proofs.BrokenLaws.{broken_meant, broken_some, broken_bit}
use Rattle.packet.specs.Parts.{body_at, body_of}
use Rattle.packet.specs.Read.{read_by, read_of}
use Rattle.packet.specs.Survey.{read_survey_of}
use Rattle.packet.specs.Told.{where_of, read_told, survey_told}
use Rattle.packet.proofs.FrontLaws.{survey_unread}
use Rattle.packet.proofs.InsideLaws.{place_inside, field_broken, stream_inside}
use Rattle.play.specs.Play.{chosen, play_of, play_told}
use Rattle.play.proofs.PlayLaws.{play_unheard}
use Rattle.index_grow.specs.Grow.{grow_of, grow_told}
use Rattle.index_grow.proofs.AnswerLaws.{grow_refused}
use Rattle.demands.specs.Program.{ours}
use Rattle.demands.specs.PlacesTold.{WordInside, FieldTold, PlacesTold}
use Rattle.demands.proofs.Samples.{refused_at_lem}

-- ---- what reading refuses

field_place : (ws : List ℕ) (p b : ℕ) → broken_of (body_of (get_or ws 0 0) ws) ≡ Field p b → where_of ws FIELD ≡ Field (body_at (get_or ws 0 0) + p) b
unfolding where_of
field_place ws p b e = rw e

-- without words it is EMPTY
read_some : (survey : Bool) (ws : List ℕ) (n : ℕ) → read_by survey ws ≡ refused n → (n ≡ EMPTY → ⊥) → 0 < length ws
unfolding read_by
read_some survey [] n e some = absurd (some (cc))
read_some survey (x ∷ xs) n e some = omega arith

module _ (survey : Bool) (ws : List ℕ) (n : ℕ) (e : read_by survey ws ≡ refused n) where
  read_inside : WordInside ws (refusal n (where_of ws n))
  unfolding where_of
  read_inside = record {
    header = λ t. (rw t, λ some. read_some survey ws n e some);
    inside = λ f _. place_inside ws survey n e f;
  }

  read_field : n ≡ FIELD → FieldTold ws (refusal n (where_of ws n))
  read_field i =
      let body = body_of (get_or ws 0 0) ws in
      let k = broken_some body (field_broken ws survey n e i) in
      let b = broken_bit body k.0 k.1 k.2 in
      record {
        bit = k.1;
        at = k.0;
        place = ap (where_of ws) i ∙ field_place ws k.0 k.1 k.2;
        least = b.0;
        most = b.1;
        highest = (broken_meant body k.0 k.1).0 k.2;
      }

-- ---- what playing refuses

module _ (t ws : List ℕ) (n : ℕ) (e : play_of t ws ≡ refused n) where
  play_inside : WordInside ws (refusal n (where_of ws n))
  play_inside =
      ⊎_elim (λ (i : n ≡ TABLE). rw i (record { header = λ x. absurd (true_is_false (sym x)); inside = λ _ x. absurd (x refl) }))
      (⊎_elim (λ (r : read_by (chosen t ws) ws ≡ refused n). read_inside (chosen t ws) ws n r)
      (λ s. rw s.0 (record { header = λ x. absurd (true_is_false (sym x)); inside = λ _ _. stream_inside ws (chosen t ws) s.1.0 s.1.1 })))
      (play_unheard t ws n e)

  play_field : n ≡ FIELD → FieldTold ws (refusal n (where_of ws n))
  play_field i =
      ⊎_elim (λ (j : n ≡ TABLE). absurd (omega (arith, i, j)))
      (⊎_elim (λ (r : read_by (chosen t ws) ws ≡ refused n). read_field (chosen t ws) ws n r i) (λ s. absurd (omega (arith, i, s.0))))
      (play_unheard t ws n e)

-- ---- what growing refuses: what reading does, or what has no place

module _ (t ws ix : List ℕ) (n : ℕ) (e : grow_of t ws ix ≡ refused n) where
  grow_inside : ((where_of ws n ≡ Nowhere) × (among n (TABLE ∷ PAGE ∷ ROOM ∷ []) ≡ true)) ⊎ WordInside ws (refusal n (where_of ws n))
  grow_inside =
      ⊎_elim (λ (r : read_by (chosen t ws) ws ≡ refused n). inr (read_inside (chosen t ws) ws n r)) (λ z. inl z) (grow_refused t ws ix n e)

  grow_field : n ≡ FIELD → FieldTold ws (refusal n (where_of ws n))
  grow_field i =
      ⊎_elim (λ (r : read_by (chosen t ws) ws ≡ refused n). read_field (chosen t ws) ws n r i) (λ z. absurd (true_is_false (sym (rw i at z.1))))
      (grow_refused t ws ix n e)

-- ---- all of them

pub places_told : PlacesTold ours
unfolding read_told survey_told play_told grow_told
places_told = record {
  samples = refused_at_lem;
  read = λ ws r e. let k = told_refused (where_of ws) (read_of ws) r e in rw k.2 (read_inside false ws k.0 k.1);
  read_survey = λ ws r e. let k = told_refused (where_of ws) (read_survey_of ws) r e in rw k.2 (read_inside true ws k.0 (survey_unread ws k.0 k.1));
  play = λ t ws r e. let k = told_refused (where_of ws) (play_of t ws) r e in rw k.2 (play_inside t ws k.0 k.1);
  grow = λ t ws ix r e. let k = told_refused (where_of ws) (grow_of t ws ix) r e in rw k.2 (grow_inside t ws ix k.0 k.1);
  read_field = λ ws r e i.
      let k = told_refused (where_of ws) (read_of ws) r e in
      rw k.2 (read_field false ws k.0 k.1 (rw k.2 at i));
  survey_field = λ ws r e i.
      let k = told_refused (where_of ws) (read_survey_of ws) r e in
      rw k.2 (read_field true ws k.0 (survey_unread ws k.0 k.1) (rw k.2 at i));
  play_field = λ t ws r e i.
      let k = told_refused (where_of ws) (play_of t ws) r e in
      rw k.2 (play_field t ws k.0 k.1 (rw k.2 at i));
  grow_field = λ t ws ix r e i.
      let k = told_refused (where_of ws) (grow_of t ws ix) r e in
      rw k.2 (grow_field t ws ix k.0 k.1 (rw k.2 at i));
}
