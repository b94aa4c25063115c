-- `other_of` meets its promise: of types other than 1 the four numbers are zero.
use Rattle.words.proofs.Kit.{◌≡◌, List, ℕ, ne_eqb}
use Rattle.packet.specs.declared.Packet.{Packet}
use Rattle.packet.specs.Header.{type_of}
use Rattle.packet.specs.Parts.{packet_of}
use Rattle.packet.specs.Survey.{survey_of}
use Rattle.packet.proofs.surveys.other_of.Goals as goal

other_made : (w : ℕ) (ws : List ℕ) → (type_of w ≡ 1 → ⊥) → (p : Packet) → p ≡ packet_of w ws
    → record { packet = p; pad = 0; first = 0; second = 0; items = 0 } ≡ survey_of w ws
unfolding survey_of
other_made w ws d p q = rw (ne_eqb (type_of w) 1 d, q)

pub returns : goal.returns
returns c = search other_made
