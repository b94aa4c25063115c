-- `check_sized` meets its promise: no words are EMPTY; a header that is refused ends the chain, and else the size decides.
use Rattle.words.proofs.Kit.{eq-eqb, length}
use Rattle.words.proofs.ListedLaws.{passed_on}
use Rattle.packet.specs.inner.Steps.{sized_checks}
use Rattle.packet.proofs.FrontLaws.{header_refused, size_asked}
use Rattle.packet.proofs.checks.check_sized.Goals as goal

pub returns-then-ws-eq0 : goal.returns-then-ws-eq0
unfolding sized_checks
returns-then-ws-eq0 c = rw (eq-eqb (length c.args.ws.now) 0 c.if-ws-eq0.true)

pub returns-in_err-check_header : goal.returns-in_err-check_header
returns-in_err-check_header c = passed_on _ _ c.from_residual.ensures.1 _ (header_refused _ c.if-ws-eq0.false _ c.in_err-check_header.ensures)

pub returns : goal.returns
returns c = size_asked _ c.if-ws-eq0.false _ c.in_ok-check_header.ensures c.check_size.ensures
