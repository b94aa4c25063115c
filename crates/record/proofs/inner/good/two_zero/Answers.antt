-- `two_zero` meets its promise: one word, and one behind it.
use Rattle.record.proofs.GoodLaws.{zeros_two}
use Rattle.std.proofs.Common.{rules}
use Rattle.record.proofs.inner.good.two_zero.Goals as goal

pub returns : goal.returns
returns c = search zeros_two
