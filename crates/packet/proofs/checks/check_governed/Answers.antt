-- `check_governed` meets its promise: a refusal of the prologue ends the chain, and else PAD decides.
use Rattle.words.proofs.ListedLaws.{passed_on}
use Rattle.packet.proofs.FrontLaws.{governed_refused, payload_asked}
use Rattle.packet.proofs.checks.check_governed.Goals as goal

pub returns-in_err-check_prologue : goal.returns-in_err-check_prologue
returns-in_err-check_prologue c = passed_on _ _ c.from_residual.ensures.1 _ (governed_refused _ _ _ c.in_err-check_prologue.ensures)

pub returns : goal.returns
returns c = search (payload_asked, c.in_ok-check_prologue.ensures)
