-- The parts of the fields up to k stand in their places.
use Rattle.words.proofs.Kit.{◌≡◌, List, ℕ, ◌≤◌, ◌<◌}
use Rattle.payload_format.specs.Field.{field_in}
use Rattle.payload_unpack.proofs.BuffersLaws.{Parts}
use Rattle.payload_unpack.proofs.tagged.write_parts.Given as goal

abbrev pub invariant-loop-k : goal.invariant-loop-k
invariant-loop-k g l =
    (ws : List ℕ) → ((j v : ℕ) → l.from ≤ j → j < l.n → goal.F-post g l.field j v → v ≡ field_in l.p ws j)
    → Parts l.p ws l.from l.n l.k l.initial.items l.initial.events l.initial.channels l.items l.events l.channels
