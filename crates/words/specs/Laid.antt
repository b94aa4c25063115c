-- Words laid into a list one after the other: what every writer of words promises.
use Rattle.std.specs.Prelude.{◌≡◌, List, ℕ, ◌+◌, length}
use Rattle.std.proofs.lemmas.List.Edits.{sets}

-- the words ws are stored in the list `before` from the place at: `next` is the place past them, and `after` the list afterwards
pub record Laid (before : List ℕ) (at : ℕ) (ws : List ℕ) (next : ℕ) (after : List ℕ) : Type 0 where
  pub past : next ≡ at + length ws
  pub kept : after ≡ sets before at ws
