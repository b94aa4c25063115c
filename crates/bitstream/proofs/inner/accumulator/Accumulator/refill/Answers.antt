-- `refill` meets its promise: what is counted serves (`refilled_same`), or `refilled` says what a word more gives.
use Rattle.words.proofs.Kit.{◌<◌, arith, length}
use Rattle.bitstream.proofs.ReadLaws.{next_there, refill_below, refilled, refilled_same}
use Rattle.bitstream.proofs.inner.accumulator.Accumulator.refill.Goals as goal

pub carried_at-requires : goal.carried_at-requires
carried_at-requires c = search next_there

pub overflow_add-self : goal.overflow_add-self
overflow_add-self c = search refill_below

pub overflow_add-self-then-self-w-2 : goal.overflow_add-self-then-self-w-2
overflow_add-self-then-self-w-2 c =
    let there : c.args.self.now.at < length c.args.payload.now = search next_there in
    omega arith

pub returns-then-self-w : goal.returns-then-self-w
returns-then-self-w c = search refilled

pub returns-else-self-w : goal.returns-else-self-w
returns-else-self-w c = search refilled_same
