-- Why a walk ends. The idea: reading does not refuse with STREAM, so a step that goes on behind a refusal goes on behind STREAM, of a packet that was read;
-- and a packet that was read has at least its header.
use Rattle.std.specs.Prelude.{Ok, Some}
use Rattle.words.proofs.Kit.{◌≡◌, refl, sym, ap, ◌∙◌, Bool, true, List, ℕ, ◌≤◌, ◌<◌, arith, eqb-true, length, drop, get_or}
use native.Mathlib.Nat.{add-zero}
use lib.Seq.{get_or-drop}
use Rattle.words.specs.Numbers.{STREAM}
use Rattle.words.specs.Listed.{on_paper}
use Rattle.words.specs.Outcome.{Outcome, refused, accepted, said_of, Meets}
use Rattle.words.specs.Told.{told}
use Rattle.words.proofs.MeetLaws.{meets_accepted}
use Rattle.words.proofs.ToldLaws.{told_said}
use Rattle.packet.specs.declared.Packet.{Packet}
use Rattle.packet.specs.Header.{size_of}
use Rattle.packet.specs.Read.{read_by}
use Rattle.packet.specs.Told.{where_of}
use Rattle.packet.proofs.ReadLaws.{size_some, size_said, read_number}
use Rattle.table.specs.Well.{well_made}
use Rattle.table.specs.Start.{start_of}
use Rattle.table.proofs.StartLaws.{start_well_made}
use Rattle.play.specs.declared.step.Happened.{Happened}
use Rattle.play.specs.Play.{chosen, step_of, play_of, play_told}
use Rattle.play.specs.Run.{goes_on, said_at, left_at, next_of, Stepped}
use Rattle.play.proofs.PlayLaws.{step_read, play_step}
use Rattle.play.proofs.EntryLaws.{step_goes}
use Rattle.play.proofs.KeepLaws.{play_keeps}

-- ---- a step that goes on

said_on : (o : Outcome Packet) (t ws : List ℕ) → read_by (chosen t ws) ws ≡ o → goes_on (told (where_of ws) (said_of (step_of t ws))) ≡ true
    → (p : Packet) × (read_by (chosen t ws) ws ≡ accepted p)
said_on (accepted p) t ws e g = (p, e)
said_on (refused n) t ws e g = absurd (read_number (chosen t ws) ws n e (eqb-true n STREAM (rw (step_read, e) at g)))

read_size : (survey : Bool) (ws : List ℕ) (p : Packet) → read_by survey ws ≡ accepted p → 1 ≤ size_of (get_or ws 0 0)
read_size survey ws p e = rw (size_said survey ws p e) at (size_some survey ws p e)

said_step : (t ws : List ℕ) (at : ℕ) → well_made t ≡ true → goes_on (said_at t ws at) ≡ true
    → goes_on (told (where_of (drop at ws)) (said_of (step_of t (drop at ws)))) ≡ true
unfolding said_at play_told
said_step t ws at w g = rw (told_said (where_of (drop at ws)) (play_of t (drop at ws)), play_step t (drop at ws) w) at g

-- a walk that goes on has passed at least a word
pub next_on : (t ws : List ℕ) (at : ℕ) → well_made t ≡ true → goes_on (said_at t ws at) ≡ true → at < next_of t ws at
unfolding next_of
next_on t ws at w g =
    let q = said_on _ t (drop at ws) refl (said_step t ws at w g) in
    let h : 1 ≤ size_of (get_or ws at 0) = rw (get_or-drop at ws 0 0, add-zero at) at (read_size _ (drop at ws) q.0 q.1) in
    rw g (omega (arith, h))

-- ---- a turn of the walk

module _ (t ws left : List ℕ) (at : ℕ) (r : Happened) (w : well_made t ≡ true) (m : Stepped t ws at r left) where
  pub turn_kept : (length left ≡ length t) × (well_made left ≡ true)
  unfolding left_at
  turn_kept = let k = play_keeps t (drop at ws) in (ap length m.table ∙ k.whole, ap well_made m.table ∙ k.well w)

  pub turn_on : (n : ℕ) → r.next ≡ Some n → at < n
  turn_on n e = let g = step_goes m n e in rw g.1 (next_on t ws at w g.0)

-- ---- a table that has started

pub started_well : (ids choices t left : List ℕ) (n : ℕ) → Meets on_paper (start_of ids choices t) t (Ok n) left → well_made left ≡ true
started_well ids choices t left n m =
    let k = meets_accepted m refl in
    rw k.leaves (start_well_made ids choices t k.done k.wants).well
