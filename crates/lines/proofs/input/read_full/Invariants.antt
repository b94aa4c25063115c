-- What is read lies at the front of the buffer.
use Rattle.std.proofs.Common.{◌≤◌, length}
use Rattle.lines.proofs.input.read_full.Given as goal

abbrev pub invariant-loop : goal.invariant-loop
invariant-loop g l = l.done ≤ length l.buffer
