-- Streams apart: "With the list unchanged, other streams' packets may be altered at will, none becoming this stream's, without altering this stream's answers
-- or record."
use Rattle.std.specs.Prelude.{◌≡◌, ℕ, false, List, [], ◌∷◌}
use Rattle.words.specs.Tests.{pick}
use Rattle.words.specs.Outcome.{refused, accepted}
use Rattle.words.specs.Told.{RefusalTold, Told}
use Rattle.play.specs.declared.Heard.{Heard}
use Rattle.demands.specs.Listing.{Listing}
use Rattle.demands.specs.Trace.{heard_by, trace_of, is_own}
use Rattle.demands.specs.Program.{Program, play_all, said_all}
use Rattle.demands.specs.Right.{Right, layout_of}

-- the same packets but for those that are not the accepted ones of stream s, before or after: "other streams' packets may be altered at will, none becoming
-- this stream's"; they may be added and dropped too. A refused packet is no stream's own, so it is one of these even where its words bear the identifier of s
pub data Altered (list : Listing) (s : ℕ) : List (List ℕ) → List (List ℕ) → Type 0 where
  ended : Altered list s [] []
  same : {ps qs : List (List ℕ)} (ws : List ℕ) → Altered list s ps qs → Altered list s (ws ∷ ps) (ws ∷ qs)
  changed : {ps qs : List (List ℕ)} (ws vs : List ℕ) → is_own s (heard_by list ws) ≡ false → is_own s (heard_by list vs) ≡ false → Altered list s ps qs
      → Altered list s (ws ∷ ps) (vs ∷ qs)
  added : {ps qs : List (List ℕ)} (vs : List ℕ) → is_own s (heard_by list vs) ≡ false → Altered list s ps qs → Altered list s ps (vs ∷ qs)
  dropped : {ps qs : List (List ℕ)} (ws : List ℕ) → is_own s (heard_by list ws) ≡ false → Altered list s ps qs → Altered list s (ws ∷ ps) qs

-- of the answers to some packets, those to the accepted packets of stream s
abbrev pub own_answers : Listing → ℕ → List (List ℕ) → List (Told Heard) → List (Told Heard)
own_answers list s [] answers = []
own_answers list s (ws ∷ packets) [] = []
own_answers list s (ws ∷ packets) (x ∷ answers) = pick (is_own s (heard_by list ws)) (x ∷ own_answers list s packets answers)
    (own_answers list s packets answers)

-- ---- refused packets

-- the accepted ones of some answers
abbrev pub accepted_of : {A : Type 0} → List (Told A) → List A
accepted_of [] = []
accepted_of (refused r ∷ later) = accepted_of later
accepted_of (accepted a ∷ later) = a ∷ accepted_of later

-- of refused packets, whatever identifier their words bear
pub record RefusedApart (P : Program) (list : Listing) : Type 0 where
  -- one is no stream's own
  pub unowned : (ws : List ℕ) (r : RefusalTold) → heard_by list ws ≡ refused r → (s : ℕ) → is_own s (heard_by list ws) ≡ false
  -- its answer, number and place, is by its words and the list alone, whatever was played before; nothing changes
  pub answer : (packets : List (List ℕ)) (t : List ℕ) → Right list packets t → (ws : List ℕ) (r : RefusalTold) → heard_by list ws ≡ refused r
      → P.play t ws ≡ refused r
  -- they may be altered, added and dropped: where the accepted packets are the same, the records of all streams are, and the answers to these packets
  pub altered : (before ps qs : List (List ℕ)) (t u : List ℕ) → Right list before t → Right list before u
      → accepted_of (trace_of list ps) ≡ accepted_of (trace_of list qs)
      → (layout_of list (play_all P t ps) ≡ layout_of list (play_all P u qs)) × (accepted_of (said_all P t ps) ≡ accepted_of (said_all P u qs))
