-- Overload lights go out: what lasts for one data packet leaves no trace. Document 02, C-11: "over-range and sample loss (25/13, 24/12) are never held", and
-- field 22 "is now checked and never held".
use Rattle.std.specs.Prelude.{◌≡◌, ℕ, ◌+◌, true, false, List, get_or}
use Rattle.words.specs.Word.{has}
use Rattle.words.specs.Outcome.{accepted, left_of}
use Rattle.fields.specs.Layout.{indicator_of, field_of}
use Rattle.demands.specs.Things.{passing}
use Rattle.demands.specs.Listing.{Listing}
use Rattle.demands.specs.Trace.{Arrival, heard_by}
use Rattle.demands.specs.Program.{Program}
use Rattle.demands.specs.Right.{Right}

-- to a list, two accepted packets of one stream, type and count that carry the same fields, but for 22, and the same words in them, but for the enables and
-- values of over-range and sample loss in 16. Of 22 nothing is asked: one packet may carry it and the other not, or another number.
pub record SameButLights (list : Listing) (ws vs : List ℕ) : Type 0 where
  pub one : Arrival
  pub other : Arrival
  pub hears_one : heard_by list ws ≡ accepted one
  pub hears_other : heard_by list vs ≡ accepted other
  pub stream : one.stream ≡ other.stream
  pub kind : one.kind ≡ other.kind
  pub count : one.count ≡ other.count
  pub carried : (b : ℕ) → (b ≡ 22 → ⊥) → has (indicator_of one.body) b ≡ has (indicator_of other.body) b
  pub words : (b : ℕ) → has (indicator_of one.body) b ≡ true → (b ≡ 22 → ⊥) → (b ≡ 16 → ⊥) → field_of b one.body ≡ field_of b other.body
  pub state : has (indicator_of one.body) 16 ≡ true → (i : ℕ) → passing i ≡ false → passing (i + 12) ≡ false
      → has (get_or (field_of 16 one.body) 0 0) i ≡ has (get_or (field_of 16 other.body) 0 0) i

-- they leave the same table, and so whatever is asked of it, or saved, is the same
abbrev pub LightsOut : Program → Type 0
LightsOut P = (list : Listing) (packets : List (List ℕ)) (t : List ℕ) → Right list packets t → (ws vs : List ℕ) → SameButLights list ws vs
    → left_of (P.play t ws) t ≡ left_of (P.play t vs) t
