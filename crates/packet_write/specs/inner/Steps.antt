-- What each step of writing finds, where 49A is chosen with a pad count, or is not.
use Rattle.std.specs.Prelude.{ℕ, Bool, not, List, [], ◌∷◌, ◌++◌, ltb, length}
use Rattle.words.specs.Numbers.{TYPE, VALUE}
use Rattle.words.specs.Outcome.{Outcome, accepted}
use Rattle.words.specs.Refusals.{Refusals, first_given, only_where}
use Rattle.packet.specs.Read.{body_list}
use Rattle.packet.specs.declared.Parts.{Parts}
use Rattle.packet_write.specs.Write.{parts_fit, governs, parts_list, measure_list, pad_list, room_list, write_list_by}

-- of the parts, the measures, the payload and the room, and all together
unfoldable pub parts_checks : (survey : Bool) → ℕ → Parts → Outcome Unit
parts_checks survey pad p = first_given (parts_list survey pad p) (accepted tt)

-- of the parts whatever the pad count is
abbrev pub plain_list : Parts → Refusals
plain_list p = (TYPE, ltb 5 p.kind) ∷ (VALUE, not (parts_fit p)) ∷ []

unfoldable pub plain_checks : Parts → Outcome Unit
plain_checks p = first_given (plain_list p) (accepted tt)

unfoldable pub measure_checks : Parts → ℕ → Outcome Unit
measure_checks p n = first_given (measure_list p n) (accepted tt)

-- SHORT, SIZE and TIME; then what the body of a type 4 packet is refused for
abbrev pub content_list : Parts → List ℕ → Refusals
content_list p body = measure_list p (length body) ++ body_list p.kind body

unfoldable pub content_checks : Parts → List ℕ → Outcome Unit
content_checks p body = first_given (content_list p body) (accepted tt)

unfoldable pub pad_checks : (survey : Bool) → ℕ → Parts → List ℕ → Outcome Unit
pad_checks survey pad p body = first_given (only_where (governs survey p) (pad_list pad p body)) (accepted tt)

unfoldable pub room_checks : ℕ → ℕ → ℕ → Outcome Unit
room_checks room at size = first_given (room_list room at size) (accepted tt)

unfoldable pub write_checks : (survey : Bool) → ℕ → Parts → List ℕ → ℕ → ℕ → Outcome Unit
write_checks survey pad p body room at = first_given (write_list_by survey pad p body room at) (accepted tt)
