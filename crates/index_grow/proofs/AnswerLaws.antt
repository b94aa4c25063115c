-- What an answer of growing tells. The idea: an accepted one passed every test of its list (`grow_taken`); a refusal is reading's, or one that has no place
-- (`grow_refused`).
use Rattle.words.proofs.Kit.{◌≡◌, refl, sym, ◌∙◌, Bool, true, false, ⊎_elim, List, [], ◌∷◌, ℕ, arith, not-false}
use mathlib.Core.Logic.{◌⊎◌, inl, inr}
use Rattle.words.specs.declared.Where.TheVariants.{Nowhere}
use Rattle.words.specs.Numbers.{TABLE, PAGE, ROOM}
use Rattle.words.specs.Tests.{both, among}
use Rattle.words.specs.Outcome.{Outcome, refused, accepted, onward, Done, said_of}
use Rattle.words.specs.Refusals.{first_given}
use Rattle.words.proofs.Cases.{true_or_false, accepted_same}
use Rattle.words.proofs.RefusalLaws.{first_passed}
use Rattle.words.proofs.ToldLaws.{told_accepted}
use Rattle.packet.specs.declared.Packet.{Packet}
use Rattle.packet.specs.Read.{read_by}
use Rattle.packet.specs.Told.{where_of}
use Rattle.table.specs.Well.{well_made}
use Rattle.play.specs.Play.{chosen, play_told}
use Rattle.play.specs.Run.{goes_on}
use Rattle.play.proofs.KeepLaws.{play_keeps}
use Rattle.index.specs.Good.{index_good}
use Rattle.index_grow.specs.declared.Taken.{Taken}
use Rattle.index_grow.specs.Grow.{table_taken, reaches_entry, entry_lacks, grow_list, grown_done, grow_of, grow_told}
use Rattle.index_grow.specs.inner.Steps.{Ready}
use Rattle.index_grow.proofs.GrowLaws.{grow_read, grow_accepts, grow_refuses, unread_both}

-- a packet that is taken in: the table and the contents are well made, play goes on behind it and keeps the table, and there is room
pub record GrowTaken (t ws ix : List ℕ) (d : Done Taken (List ℕ × List ℕ)) : Type 0 where
  pub ready : Ready t ix
  pub goes : goes_on (said_of (play_told t ws)) ≡ true
  pub fits : both (reaches_entry ix) (entry_lacks (table_taken t ws) ix) ≡ false
  pub well : well_made (table_taken t ws) ≡ true
  pub is : d ≡ grown_done t ws ix

module _ (t ws ix : List ℕ) (d : Done Taken (List ℕ × List ℕ)) (e : grow_told t ws ix ≡ accepted d) where
  ready : Ready t ix
  unfolding grow_told grow_of
  ready =
      let q = first_passed (grow_list t ws ix) _ d (told_accepted (where_of ws) (grow_of t ws ix) d e) in
      record { table = not-false (well_made t) q.0.0; index = not-false (index_good ix) q.0.1.0 }

  -- else growing refuses it
  goes : goes_on (said_of (play_told t ws)) ≡ true
  goes =
      ⊎_elim (λ (g : goes_on (said_of (play_told t ws)) ≡ true). g)
      (λ (g : goes_on (said_of (play_told t ws)) ≡ false).
      let no = (unread_both t ws ix ready g).grows in
      let z : ◌≡◌ {A = ℕ} 0 1 = cc in
      absurd (omega arith))
      (true_or_false (goes_on (said_of (play_told t ws))))

  fits : both (reaches_entry ix) (entry_lacks (table_taken t ws) ix) ≡ false
  fits =
      ⊎_elim
      (λ (f : both (reaches_entry ix) (entry_lacks (table_taken t ws) ix) ≡ true).
      let no = grow_refuses t ws ix ready goes f in
      let z : ◌≡◌ {A = ℕ} 0 1 = cc in
      absurd (omega arith))
      (λ (f : both (reaches_entry ix) (entry_lacks (table_taken t ws) ix) ≡ false). f)
      (true_or_false (both (reaches_entry ix) (entry_lacks (table_taken t ws) ix)))

  pub grow_taken : GrowTaken t ws ix d
  unfolding table_taken
  grow_taken = record {
    ready = ready;
    goes = goes;
    fits = fits;
    well = (play_keeps t ws).well ready.table;
    is = accepted_same (sym e ∙ grow_accepts t ws ix ready goes fits);
  }

-- ---- a refusal

refused_same : {A : Type 0} {m n : ℕ} → ◌≡◌ {A = Outcome A} (refused m) (refused n) → m ≡ n
refused_same e = cc

-- what stands behind reading refuses with ROOM alone
rest_refused : (b : Bool) (d : Done Taken (List ℕ × List ℕ)) (n : ℕ) → first_given ((ROOM, b) ∷ []) (accepted d) ≡ refused n → n ≡ ROOM
rest_refused true d n e = cc
rest_refused false d n e = let z : ◌≡◌ {A = ℕ} 0 1 = cc in absurd (omega arith)

module _ (t ws ix : List ℕ) (n : ℕ) where
  abbrev Placed : Type 0
  Placed = (read_by (chosen t ws) ws ≡ refused n) ⊎ ((where_of ws n ≡ Nowhere) × (among n (TABLE ∷ PAGE ∷ ROOM ∷ []) ≡ true))

  refused_by : (o : Outcome Packet) → read_by (chosen t ws) ws ≡ o
      → onward o (λ p. first_given ((ROOM, both (reaches_entry ix) (entry_lacks (table_taken t ws) ix)) ∷ []) (accepted (grown_done t ws ix))) ≡ refused n
      → Placed
  unfolding where_of
  refused_by (refused m) e f = let i : m ≡ n = cc in inl (rw (← i) e)
  refused_by (accepted p) e f =
      let i : n ≡ ROOM = rest_refused (both (reaches_entry ix) (entry_lacks (table_taken t ws) ix)) (grown_done t ws ix) n f in
      inr (rw i, rw i)

  pub grow_refused : grow_of t ws ix ≡ refused n → Placed
  unfolding grow_of where_of
  grow_refused e =
      ⊎_elim
      (λ (w : well_made t ≡ true).
      ⊎_elim
      (λ (g : index_good ix ≡ true). refused_by (read_by (chosen t ws) ws) refl (sym (grow_read t ws ix (record { table = w; index = g })) ∙ e))
      (λ (g : index_good ix ≡ false). let i : PAGE ≡ n = refused_same (rw (w, g) at e) in inr (rw (← i), rw (← i)))
      (true_or_false (index_good ix)))
      (λ (w : well_made t ≡ false). let i : TABLE ≡ n = refused_same (rw w at e) in inr (rw (← i), rw (← i)))
      (true_or_false (well_made t))
