-- What the checks inside answer.
use Rattle.std.specs.Prelude.{ℕ}
use Rattle.words.specs.Outcome.{Outcome, accepted}
use Rattle.words.specs.Refusals.{first_given}
use Rattle.payload_format.specs.Count.{needed_list}

-- the first refusal of a format and a number of items: FORMAT, then COUNT
unfoldable pub items_check : ℕ → ℕ → ℕ → Outcome Unit
items_check first second n = first_given (needed_list first second n) (accepted tt)
