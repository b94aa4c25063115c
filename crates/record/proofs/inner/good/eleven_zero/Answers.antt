-- `eleven_zero` meets its promise: four words, four, two and one, each behind those before.
use Rattle.record.proofs.GoodLaws.{zeros_eleven}
use Rattle.std.proofs.Common.{rules}
use Rattle.record.proofs.inner.good.eleven_zero.Goals as goal

pub returns : goal.returns
returns c = search zeros_eleven
