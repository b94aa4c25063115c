-- `is_apart` meets its promise: the identifiers passed are others.
use Rattle.words.proofs.Kit.{◌≡◌, true}
use Rattle.words.specs.All.{all}
use Rattle.table.specs.Identifiers.{spaced}
use Rattle.table.proofs.ListLaws.{others}
use Rattle.table.proofs.identifiers.is_apart.Given as goal

abbrev pub invariant-loop-u : goal.invariant-loop-u
invariant-loop-u l = all l.u (others (spaced l.first l.step l.ws) l.s) ≡ true
