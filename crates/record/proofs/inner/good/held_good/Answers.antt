-- `held_good` meets its promise: each return is a row of the definition. Where nothing is held, both of its tests pass.
use Rattle.words.proofs.Kit.{◌≡◌, sym, true, false, ℕ, eqb, ne_eqb, eq-eqb, arith}
use lib.Bits.{bit_and}
use Rattle.words.proofs.Cases.{both_yes, both_no, pick_same}
use Rattle.record.specs.Held.{slot_mask, held_mask}
use Rattle.record.specs.Good.{held_good}
use Rattle.record.proofs.inner.good.held_good.Goals as goal

module _ (held last : ℕ) where
  none_held : held ≡ 0 → true ≡ held_good held last
  unfolding held_good held_mask slot_mask
  none_held e = rw e (sym (pick_same (eqb last 0) true))

  held_early : (held ≡ 0 → ⊥) → last ≡ 0 → false ≡ held_good held last
  unfolding held_good
  held_early some e = let f = ne_eqb held 0 some in let g = eq-eqb last 0 e in rw (g, f) (sym (both_no (eqb (bit_and held held_mask) held)))

pub returns-then-held-eq0 : goal.returns-then-held-eq0
returns-then-held-eq0 c = search none_held

pub returns-then-last-eq0 : goal.returns-then-last-eq0
returns-then-last-eq0 c = search held_early

pub returns : goal.returns
unfolding held_good held_mask slot_mask
returns c =
    let late = ne_eqb c.args.last 0 (λ e. absurd (omega (arith, e))) in
    rw late (sym (both_yes _))
