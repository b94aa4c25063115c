-- `check_survey` meets its promise: 49A governs type 1 (`rest_governed`), and other types are plain (`rest_other`).
use Rattle.words.proofs.ListedLaws.{passed_on}
use Rattle.packet.proofs.FrontLaws.{governed_asked, plain_asked, prologue_refused, body_asked}
use Rattle.packet.proofs.checks.check_survey.Goals as goal

pub returns-then-type_of-eq1 : goal.returns-then-type_of-eq1
returns-then-type_of-eq1 c = search governed_asked

pub returns-in_err-check_prologue : goal.returns-in_err-check_prologue
returns-in_err-check_prologue c = passed_on _ _ c.from_residual.ensures.1 _ (search (plain_asked, prologue_refused, c.in_err-check_prologue.ensures))

pub returns : goal.returns
returns c = search (plain_asked, body_asked, c.in_ok-check_prologue.ensures)
