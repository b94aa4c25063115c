-- `place_of` meets its promise: the refusals other than FIELD have other numbers (`number_once`).
use Rattle.words.proofs.Kit.{refl, ne_eqb}
use Rattle.words.specs.Numbers.{FIELD}
use Rattle.words.specs.Listed.{list_number}
use Rattle.words.proofs.Once.{number_once}
use Rattle.play.proofs.entries.place_of.Goals as goal

pub returns-in_default : goal.returns-in_default
returns-in_default c = rw (ne_eqb (list_number c.args.refusal) FIELD (λ e. c.in_default.not-Field (number_once e refl)))
