-- The table stays well made, and each turn passes at least a word.
use Rattle.std.proofs.Common.{◌≡◌, ◌-◌, true, length}
use Rattle.table.specs.Well.{well_made}
use Rattle.vrtplay.proofs.walk.Given as goal

abbrev pub invariant-loop-at : goal.invariant-loop-at
invariant-loop-at g l = well_made l.table ≡ true

abbrev pub decreases-loop-at : goal.decreases-loop-at
decreases-loop-at g l = length l.ws - l.at
