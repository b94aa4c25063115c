-- `choices_good` meets its promise: the choices passed are 0 or 1.
use Rattle.words.proofs.Kit.{◌≡◌, true}
use Rattle.words.specs.All.{all}
use Rattle.table.proofs.ListLaws.{chosen}
use Rattle.table.proofs.identifiers.choices_good.Given as goal

abbrev pub invariant-loop-choice : goal.invariant-loop-choice
invariant-loop-choice l = all l.choice-index (chosen l.choices) ≡ true
