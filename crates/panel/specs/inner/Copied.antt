-- Held words copied to a buffer: ROOM, or how many they are.
use Rattle.std.specs.Prelude.{ℕ, List, ◌++◌, length, drop}
use Rattle.words.specs.Outcome.{Outcome, accepted, Done}
use Rattle.words.specs.Refusals.{first_given}
use Rattle.panel.specs.HeldWords.{copy_list}

-- words copied to the front of a buffer, whose other words stay
unfoldable pub copy_of : List ℕ → List ℕ → Outcome (Done ℕ (List ℕ))
copy_of ws out = first_given (copy_list ws out) (accepted (record { says = length ws; leaves = ws ++ drop (length ws) out }))
