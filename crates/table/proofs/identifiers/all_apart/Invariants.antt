-- `all_apart` meets its promise: the identifiers passed stand once.
use Rattle.words.proofs.Kit.{◌≡◌, true}
use Rattle.words.specs.All.{all}
use Rattle.table.specs.Identifiers.{spaced, apart}
use Rattle.table.proofs.identifiers.all_apart.Given as goal

abbrev pub invariant-loop-s : goal.invariant-loop-s
invariant-loop-s l = all l.s (apart (spaced l.first l.step l.ws)) ≡ true
