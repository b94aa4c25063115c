-- How the walk over some packets goes. The idea: after i of them, those that are left from the place where the walk stands give what all of them give (`Onto`);
-- a turn takes the next k of them (`onto_turn`), and where these are not there the recording ends (`onto_short`).
use Rattle.std.specs.Prelude.{Ok, Err, min}
use Rattle.words.proofs.Kit.{◌≡◌, refl, sym, ap, ◌∙◌, true, false, not, ⊎_elim, List, [], ◌∷◌, ℕ, ◌+◌, ◌-◌, ◌*◌, ◌≤◌, ◌<◌, arith, not-false, length}
use Rattle.words.specs.Numbers.{PAGE}
use Rattle.words.specs.declared.refusals.Refusal.{Refusal}
use Rattle.words.specs.Listed.{list_number}
use Rattle.words.specs.Outcome.{Outcome, refused, accepted}
use Rattle.words.proofs.Cases.{true_or_false, true_is_false, accepted_same}
use Rattle.words.proofs.RefusalLaws.{first_passed}
use Rattle.table.specs.Well.{well_made}
use Rattle.play.specs.Run.{entry_words}
use Rattle.index_jump.specs.Onward.{Behind, behind_packets}
use Rattle.index_jump.specs.inner.Steps.{reached_place, WalkedTo}
use Rattle.index_jump.proofs.BehindLaws.{behind_none, behind_split, behind_fewer, behind_kept}

-- ---- what an answer tells

pub not_reached : (b : Behind) (r : Refusal) → refused (list_number r) ≡ reached_place b → (b.all ≡ false) × (list_number r ≡ PAGE)
not_reached b r e =
    ⊎_elim
    (λ (g : b.all ≡ true).
    let z : refused (list_number r) ≡ accepted b.place = e ∙ rw g in
    let x : ◌≡◌ {A = ℕ} 0 1 = cc in
    absurd (omega arith))
    (λ (g : b.all ≡ false).
    let z : ◌≡◌ {A = Outcome ℕ} (refused (list_number r)) (refused PAGE) = e ∙ rw g in
    (g, cc))
    (true_or_false b.all)

pub all_reached : (b : Behind) (at : ℕ) → accepted at ≡ reached_place b → (b.all ≡ true) × (b.place ≡ at)
all_reached b at e =
    let q = first_passed ((PAGE, not b.all) ∷ []) (accepted b.place) at (sym e) in
    (not-false b.all q.0.0, accepted_same q.1)

-- ---- the loop

-- n packets from a place on, on the table t₀; i of them are played, which has left the table t and goes on from the place at
pub record Onto (n : ℕ) (ws : List ℕ) (from : ℕ) (t₀ entries₀ t entries : List ℕ) (at i : ℕ) : Type 0 where
  pub most : i ≤ n
  pub well : well_made t ≡ true
  pub same : length t ≡ length t₀
  pub room : length entries ≡ length entries₀
  pub is : behind_packets n ws from t₀ ≡ behind_packets (n - i) ws at t

pub onto_start : (n : ℕ) (ws : List ℕ) (from : ℕ) (t entries : List ℕ) → well_made t ≡ true → Onto n ws from t entries t entries from 0
onto_start n ws from t entries w =
    let e : n ≡ n - 0 = omega arith in
    record { most = omega arith; well = w; same = refl; room = refl; is = ap (λ (k : ℕ). behind_packets k ws from t) e }

module _ {n from at i : ℕ} {ws t₀ entries₀ t entries : List ℕ} (p : Onto n ws from t₀ entries₀ t entries at i) where
  pub onto_end : n ≤ i → WalkedTo (behind_packets n ws from t₀) (Ok at) t
  onto_end h =
      let none : n - i ≡ 0 = omega arith in
      rw (p.is, none, behind_none ws at t) (record { answer = refl; table = λ _. refl })

  -- the next k are played
  module _ (k : ℕ) (few : k ≡ min (n - i) 32) (h : i < n) where
    pub onto_some : 1 ≤ k
    onto_some = omega (arith, few, h)

    pub onto_room : length entries₀ ≡ 160 → entry_words * k ≤ length entries
    onto_room l = omega (arith, few, l, p.room)

    pub onto_less : n - (i + k) < n - i
    onto_less = omega (arith, few, h)

    cut : n - i ≡ k + (n - (i + k))
    cut = omega (arith, few, h)

    module _ (left : List ℕ) where
      pub onto_short : (r : Refusal) → WalkedTo (behind_packets k ws at t) (Err r) left → WalkedTo (behind_packets n ws from t₀) (Err r) left
      onto_short r w =
          let no = not_reached (behind_packets k ws at t) r w.answer in
          let all : (behind_packets n ws from t₀).all ≡ (behind_packets (k + (n - (i + k))) ws at t).all =
          ap (λ (b : Behind). b.all) (p.is ∙ ap (λ (j : ℕ). behind_packets j ws at t) cut) in
          ⊎_elim
          (λ (a : (behind_packets n ws from t₀).all ≡ true).
          absurd (true_is_false (sym (behind_fewer k (n - (i + k)) ws at t (sym all ∙ a)) ∙ no.0)))
          (λ (a : (behind_packets n ws from t₀).all ≡ false). record { answer = rw (no.1, a); table = λ b. absurd (true_is_false (sym b ∙ a)) })
          (true_or_false (behind_packets n ws from t₀).all)

      pub onto_turn : (next : ℕ) (written : List ℕ) → WalkedTo (behind_packets k ws at t) (Ok next) left → length written ≡ length entries
          → Onto n ws from t₀ entries₀ left written next (i + k)
      onto_turn next written w l =
          let q = all_reached (behind_packets k ws at t) next w.answer in
          let table = w.table q.0 in
          let kept = behind_kept k ws at t in
          record {
            most = omega (arith, few, h);
            well = ap well_made table ∙ kept.well p.well;
            same = ap length table ∙ kept.whole ∙ p.same;
            room = l ∙ p.room;
            is =
                p.is ∙ ap (λ (j : ℕ). behind_packets j ws at t) cut ∙ behind_split k (n - (i + k)) ws at t q.0
                ∙ rw (q.1, ← table);
          }
