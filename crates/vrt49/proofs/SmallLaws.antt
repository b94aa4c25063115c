-- The numbers of an accepted packet fit the words that they are told in. The idea: each follows from a bound that the call's own definition has.
use Rattle.std.specs.Prelude.{Ok}
use Rattle.words.proofs.Kit.{◌≡◌, refl, sym, ap, subst, ◌∙◌, true, List, ℕ, ◌^◌, ◌≤◌, ◌<◌, arith, eqb-true, get_or}
use native.Mathlib.Nat.{mod-lt}
use Rattle.words.specs.Numbers.{STREAM}
use Rattle.words.specs.Outcome.{refused, accepted, Done, said_of, Meets}
use Rattle.words.specs.Told.{RefusalTold, Told, told_paper}
use Rattle.words.proofs.Cases.{when_most}
use Rattle.words.proofs.ToldLaws.{told_refused}
use Rattle.words.proofs.MeetLaws.{meets_accepted}
use Rattle.packet.specs.Header.{size_of}
use Rattle.packet.specs.Parts.{streamed}
use Rattle.packet.specs.Told.{where_of}
use Rattle.packet.proofs.ReadLaws.{size_small}
use Rattle.packet.proofs.InsideLaws.{stream_place}
use Rattle.table.proofs.WellLaws.{well_few}
use Rattle.play.specs.declared.Heard.{Heard}
use Rattle.play.specs.Play.{chosen, heard_of, play_of, play_told}
use Rattle.play.specs.Run.{goes_on}
use Rattle.play.proofs.StreamLaws.{sought_below}
use Rattle.play.proofs.KeepLaws.{play_taken}
use Rattle.index_grow.specs.declared.Taken.{Taken}
use Rattle.index_grow.specs.declared.Taken.TheVariants.{Declared, Undeclared}
use Rattle.index_grow.specs.declared.Stranger.{Stranger}
use Rattle.index_grow.specs.Grow.{taken_as, grow_told}
use Rattle.index_grow.proofs.AnswerLaws.{grow_taken}
use Rattle.vrt49.specs.Indexes.{taken_values, SmallTaken}

-- the size of an accepted packet has sixteen bits, and there are at most 32 streams
abbrev SmallHeard : Heard → Type 0
SmallHeard h = (h.size < 2 ^ 16) × (h.stream ≤ 31)

heard_few : (t ws : List ℕ) (d : Done Heard (List ℕ)) → play_told t ws ≡ accepted d → SmallHeard d.says
unfolding heard_of
heard_few t ws d e =
    let k = play_taken t ws d e in
    let p = k.1 in
    rw (← p.says)
    (size_small (chosen t ws) ws p.packet p.reads, omega (arith, sought_below _ _ t p.stream p.seeks, well_few t k.0))

pub heard_small : (t ws left : List ℕ) (h : Heard) → Meets told_paper (play_told t ws) t (Ok h) left
    → (h.size < 2 ^ 16) × (h.stream ≤ 31)
heard_small t ws left h m =
    let d = meets_accepted m refl in
    subst SmallHeard d.says (heard_few t ws d.done d.wants)

-- ---- a packet that is taken in

taken_few : (t ws : List ℕ) (o : Told (Done Heard (List ℕ))) → play_told t ws ≡ o → goes_on (said_of o) ≡ true
    → SmallTaken (taken_as (said_of o) (size_of (get_or ws 0 0)))
unfolding play_told
taken_few t ws (refused r) e g =
    let k = told_refused (where_of ws) (play_of t ws) r e in
    let i : r.number ≡ STREAM = eqb-true r.number STREAM g in
    let n : k.0 ≡ STREAM = sym (ap (λ (x : RefusalTold). x.number) k.2) ∙ i in
    let p : r.place ≡ where_of ws STREAM = ap (λ (x : RefusalTold). x.place) k.2 ∙ ap (where_of ws) n in
    (mod-lt (get_or ws 0 0) (omega arith), rw (p, stream_place ws) (when_most (streamed (get_or ws 0 0)) 1))
taken_few t ws (accepted d) e g = heard_few t ws d e

pub taken_small : (t ws ix : List ℕ) (left : List ℕ × List ℕ) (x : Taken) → Meets told_paper (grow_told t ws ix) (t, ix) (Ok x) left → SmallTaken x
taken_small t ws ix left x m =
    let d = meets_accepted m refl in
    let k = grow_taken t ws ix d.done d.wants in
    subst SmallTaken (sym (ap (λ (z : Done Taken (List ℕ × List ℕ)). z.says) k.is) ∙ d.says) (taken_few t ws (play_told t ws) refl k.goes)

-- a packet that is taken in is one that was heard, or one of no declared stream
module _ (x : Taken) (small : SmallTaken x) where
  pub small_heard : (h : Heard) → x ≡ Declared h → SmallTaken (Declared h)
  small_heard h e = subst SmallTaken e small

  pub small_stranger : (s : Stranger) → x ≡ Undeclared s → SmallTaken (Undeclared s)
  small_stranger s e = subst SmallTaken e small

pub heard_entry : (x : Taken) (h : Heard) (r : List ℕ) → x ≡ Declared h → r ≡ taken_values (Declared h) → r ≡ taken_values x
heard_entry x h r e f = f ∙ ap taken_values (sym e)

pub stranger_entry : (x : Taken) (s : Stranger) (r : List ℕ) → x ≡ Undeclared s → r ≡ taken_values (Undeclared s) → r ≡ taken_values x
stranger_entry x s r e f = f ∙ ap taken_values (sym e)
