-- Words behind a packet. The idea: a packet that a walk goes past was read (`goes_read`), so it has a word and lies inside the words (`goes_inside`), and all
-- that play looks at lies inside its size; so it is played alike whatever stands behind it (`play_beyond`), and alike without it (`play_within`).
use Rattle.words.proofs.Kit.{◌≡◌, refl, sym, ap, ◌∙◌, Bool, true, ⊎_elim, List, ◌++◌, ℕ, ◌+◌, ◌≤◌, ◌<◌, arith, eqb-true, length, drop, get_or}
use native.Mathlib.Nat.{le_trans}
use lib.ListN.{get_or-append, length-append, length-drop}
use lib.Seq.{take-append-le}
use Rattle.words.specs.Numbers.{STREAM}
use Rattle.words.specs.Outcome.{Outcome, refused, accepted, onward, Done, said_of}
use Rattle.words.specs.Told.{told}
use Rattle.words.proofs.PartLaws.{part_within}
use Rattle.fields.proofs.PlaceLaws.{first_word}
use Rattle.packet.specs.declared.Packet.{Packet}
use Rattle.packet.specs.Header.{size_of}
use Rattle.packet.specs.Read.{read_by}
use Rattle.packet.specs.Told.{where_of}
use Rattle.packet.proofs.ReadLaws.{read_accepts, read_inside, body_inside, size_some, size_said, read_number}
use Rattle.packet.proofs.BeyondLaws.{read_beyond}
use Rattle.packet.proofs.InsideLaws.{stream_place}
use Rattle.table.specs.Identifiers.{surveyed}
use Rattle.table.specs.Well.{well_made}
use Rattle.play.specs.declared.Heard.{Heard}
use Rattle.play.specs.Play.{table_after, heard_done, chosen, play_of, play_told}
use Rattle.play.specs.inner.Steps.{sought_of}
use Rattle.play.specs.Run.{goes_on, said_at}
use Rattle.play.proofs.StreamLaws.{sought_number}
use Rattle.play.proofs.PlayLaws.{step_read, play_step, step_unheard}
use Rattle.play.proofs.KeepLaws.{step_taken}

-- ---- a packet that a walk goes past

module _ (t ws : List ℕ) (w : well_made t ≡ true) where
  -- it was read: else it is refused with another number than STREAM
  read_by_lem : (o : Outcome (Done Heard (List ℕ))) → play_of t ws ≡ o → goes_on (said_of (told (where_of ws) o)) ≡ true
      → (p : Packet) × (read_by (chosen t ws) ws ≡ accepted p)
  read_by_lem (refused n) e g =
      ⊎_elim (λ (r : read_by (chosen t ws) ws ≡ refused n). absurd (read_number (chosen t ws) ws n r (eqb-true n STREAM g))) (λ k. k.1)
      (step_unheard t ws n w e)
  read_by_lem (accepted d) e g = let k = step_taken t ws d (sym (play_step t ws w) ∙ e) in (k.packet, k.reads)

  pub goes_read : goes_on (said_of (play_told t ws)) ≡ true → (p : Packet) × (read_by (chosen t ws) ws ≡ accepted p)
  unfolding play_told
  goes_read g = read_by_lem (play_of t ws) refl g

-- it has a word at least, and lies inside the words
pub goes_inside : (t ws : List ℕ) (at : ℕ) → well_made t ≡ true → goes_on (said_at t ws at) ≡ true
    → (0 < size_of (get_or ws at 0)) × (at + size_of (get_or ws at 0) ≤ length ws)
unfolding said_at
goes_inside t ws at w g =
    let k = goes_read t (drop at ws) w g in
    let choice = chosen t (drop at ws) in
    let size : k.0.size ≡ size_of (get_or ws at 0) = size_said choice (drop at ws) k.0 k.1 ∙ ap size_of (first_word at ws) in
    let some = size_some choice (drop at ws) k.0 k.1 in
    let there = read_inside choice (drop at ws) k.0 k.1 in
    (omega (arith, size, some), omega (arith, size, some, there, length-drop at ws))

-- ---- a packet whose words are all there, and whatever words behind it

module _ (ws rest : List ℕ) where
  -- it is read alike
  read_longer : (survey : Bool) → 0 < length ws → size_of (get_or ws 0 0) ≤ length ws → read_by survey ws ≡ read_by survey (ws ++ rest)
  read_longer survey some there =
      let more = length-append ws rest in
      read_beyond survey ws (ws ++ rest) some (omega arith) (sym (get_or-append ws rest 0 0 some)) there (omega arith)
      (sym (take-append-le (size_of (get_or ws 0 0)) ws rest there))

  -- and so it is of one stream
  choice_same : (t : List ℕ) (survey : Bool) (p : Packet) → read_by survey ws ≡ accepted p → read_by survey (ws ++ rest) ≡ accepted p
      → chosen t (ws ++ rest) ≡ chosen t ws
  choice_same t survey p e f =
      ap (λ (q : Packet). surveyed q.parts.identifier t)
      ((read_accepts survey (ws ++ rest) p f).says ∙ sym (read_accepts survey ws p e).says)

-- ---- a packet that was read

module _ (t ws rest : List ℕ) (p : Packet) (e : read_by (chosen t ws) ws ≡ accepted p) where
  header_beyond : get_or (ws ++ rest) 0 0 ≡ get_or ws 0 0
  header_beyond = get_or-append ws rest 0 0 (read_accepts (chosen t ws) ws p e).some

  packet_beyond : read_by (chosen t ws) (ws ++ rest) ≡ accepted p
  packet_beyond =
      let there : size_of (get_or ws 0 0) ≤ length ws = omega (arith, size_said (chosen t ws) ws p e, read_inside (chosen t ws) ws p e) in
      sym (read_longer ws rest (chosen t ws) (read_accepts (chosen t ws) ws p e).some there) ∙ e

  choice_beyond : chosen t (ws ++ rest) ≡ chosen t ws
  choice_beyond = choice_same ws rest t (chosen t ws) p e packet_beyond

  -- it is heard alike
  heard_beyond : (s : ℕ) → heard_done p s t (ws ++ rest) ≡ heard_done p s t ws
  unfolding table_after
  heard_beyond s = rw (part_within p.place p.length ws rest (le_trans (body_inside (chosen t ws) ws p e) (read_inside (chosen t ws) ws p e)))

  -- of no stream it is told where by its header
  told_beyond : (o : Outcome ℕ) → sought_of p.parts.kind p.parts.identifier t ≡ o
      → told (where_of (ws ++ rest)) (onward o (λ s. accepted (heard_done p s t (ws ++ rest))))
      ≡ told (where_of ws) (onward o (λ s. accepted (heard_done p s t ws)))
  told_beyond (refused n) f = rw (sought_number p.parts.kind p.parts.identifier t n f, stream_place (ws ++ rest), stream_place ws, header_beyond)
  told_beyond (accepted s) f = ap accepted (heard_beyond s)

  played_beyond : well_made t ≡ true → play_told t (ws ++ rest) ≡ play_told t ws
  unfolding play_told
  played_beyond w =
      rw (play_step t (ws ++ rest) w, play_step t ws w, step_read t (ws ++ rest), step_read t ws, choice_beyond, packet_beyond, e)
      (told_beyond (sought_of p.parts.kind p.parts.identifier t) refl)

pub play_beyond : (t ws rest : List ℕ) → well_made t ≡ true → goes_on (said_of (play_told t ws)) ≡ true → play_told t (ws ++ rest) ≡ play_told t ws
play_beyond t ws rest w g = let k = goes_read t ws w g in played_beyond t ws rest k.0 k.1 w

-- and without what stands behind it, where its words are all there
pub play_within : (t ws rest : List ℕ) → well_made t ≡ true → 0 < length ws → size_of (get_or ws 0 0) ≤ length ws
    → goes_on (said_of (play_told t (ws ++ rest))) ≡ true → play_told t (ws ++ rest) ≡ play_told t ws
play_within t ws rest w some there g =
    let longer : List ℕ = ws ++ rest in
    let k = goes_read t longer w g in
    let alike : read_by (chosen t longer) ws ≡ accepted k.0 = read_longer ws rest (chosen t longer) some there ∙ k.1 in
    let choice : chosen t longer ≡ chosen t ws = choice_same ws rest t (chosen t longer) k.0 alike k.1 in
    played_beyond t ws rest k.0 (ap (λ (b : Bool). read_by b ws) (sym choice) ∙ alike) w
