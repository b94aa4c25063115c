-- `added` meets its promise: the first packet adds nothing, and else the wrapping difference modulo 16 is document 01's.
use Rattle.record.proofs.CountLaws.{added_first, added_next}
use Rattle.std.proofs.Common.{rules}
use Rattle.record.proofs.inner.counts.added.Goals as goal

pub returns-then-last-eq0 : goal.returns-then-last-eq0
returns-then-last-eq0 c = search added_first

pub returns : goal.returns
returns c = search added_next
