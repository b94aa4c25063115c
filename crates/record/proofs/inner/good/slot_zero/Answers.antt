-- `slot_zero` meets its promise: a slot that has neither 1 nor 2 words has 11, or 13 in two pieces.
use Rattle.record.proofs.CopyLaws.{size_long}
use Rattle.record.proofs.GoodLaws.{one_zero, pair_zero, long_zero, longer_zero}
use Rattle.std.proofs.Common.{rules}
use Rattle.record.proofs.inner.good.slot_zero.Goals as goal

pub returns-then-ws-eq1 : goal.returns-then-ws-eq1
returns-then-ws-eq1 c = search one_zero

pub returns-then-ws-eq2 : goal.returns-then-ws-eq2
returns-then-ws-eq2 c = search pair_zero

pub eleven_zero-eleven-requires : goal.eleven_zero-eleven-requires
eleven_zero-eleven-requires c = search size_long

pub returns-then-ws-eq13 : goal.returns-then-ws-eq13
returns-then-ws-eq13 c = search longer_zero

pub returns : goal.returns
returns c = search long_zero
