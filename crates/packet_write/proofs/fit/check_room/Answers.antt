-- `check_room` meets its promise: each return is the one test, taken apart so that no sum wraps.
use Rattle.words.proofs.Kit.{◌+◌, lt-ltb, le-ltb, arith}
use Rattle.packet_write.specs.inner.Steps.{room_checks}
use Rattle.packet_write.proofs.fit.check_room.Goals as goal

pub returns-then-room-at : goal.returns-then-room-at
unfolding room_checks
returns-then-room-at c = let a = c.args in rw (lt-ltb a.room (a.at + a.size) (omega arith))

pub returns-then-room-at-2 : goal.returns-then-room-at-2
unfolding room_checks
returns-then-room-at-2 c = let a = c.args in rw (lt-ltb a.room (a.at + a.size) (omega arith))

pub returns : goal.returns
unfolding room_checks
returns c = let a = c.args in rw (le-ltb a.room (a.at + a.size) (omega arith))
