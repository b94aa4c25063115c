-- `check_bit` meets its promise: below 10, above 30, or a field's bit.
use Rattle.words.proofs.Kit.{lt-ltb, le-ltb}
use Rattle.words.proofs.Cases.{cases}
use Rattle.panel.specs.inner.Asked.{bit_checks}
use Rattle.panel.proofs.asked.check_bit.Goals.{then-bit-lt10-via-then-bit-lt10, then-bit-lt10-via-else-bit-lt10+then-bit-gt30}
use Rattle.panel.proofs.asked.check_bit.Goals as goal

pub returns-then-bit-lt10 : goal.returns-then-bit-lt10
unfolding bit_checks
returns-then-bit-lt10 c = search cases

pub returns : goal.returns
unfolding bit_checks
returns c = search cases
