-- `four_zero` meets its promise: two words, and two behind them.
use Rattle.record.proofs.GoodLaws.{zeros_four}
use Rattle.std.proofs.Common.{rules}
use Rattle.record.proofs.inner.good.four_zero.Goals as goal

pub returns : goal.returns
returns c = search zeros_four
