-- `event_of` meets its promise: at most 7 bits fit the cast.
use Rattle.words.proofs.Kit.{arith}
use lib.Pow.{pow_mono}
use Rattle.payload_unpack.proofs.tagged.event_of.Goals as goal

pub overflow_cast-result : goal.overflow_cast-result
overflow_cast-result c =
    omega (arith, pow_mono {i = c.args.p.event} {j = 7} c.requires.event)
