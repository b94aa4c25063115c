-- A stream's own table: it is right for the list of the stream's identifier and choice alone and the same packets, so that all that demand 3 says of a right
-- table holds of it.
use Rattle.std.specs.Prelude.{◌≡◌, ℕ, List, [], ◌∷◌}
use Rattle.words.specs.Outcome.{accepted, Done}
use Rattle.table.specs.Identifiers.{listed}
use Rattle.demands.specs.Listing.{Listing, choice_in}
use Rattle.demands.specs.Program.{Program}
use Rattle.demands.specs.Right.{Right}

-- the list of stream s alone
abbrev pub alone_in : Listing → ℕ → Listing
alone_in list s = record { ids = listed list.ids s ∷ []; choices = choice_in list s ∷ [] }

-- of stream s, in a table t that is right for the packets, and a buffer with room
pub record OwnRight (P : Program) (list : Listing) (packets : List (List ℕ)) (t : List ℕ) (s : ℕ) (out : List ℕ) : Type 0 where
  pub done : Done ℕ (List ℕ)
  pub accepts : P.own_table t s out ≡ accepted done
  pub right : Right (alone_in list s) packets done.leaves
