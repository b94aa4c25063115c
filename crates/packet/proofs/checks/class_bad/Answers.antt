-- `class_bad` meets its promise: one test, of bits that are not free.
use Rattle.words.proofs.Cases.{cases}
use Rattle.packet.specs.Read.{class_bad}
use Rattle.packet.proofs.checks.class_bad.Goals as goal

pub returns-then-free : goal.returns-then-free
unfolding class_bad
returns-then-free c = search cases

pub returns : goal.returns
unfolding class_bad
returns c = rw c.if-free.false
