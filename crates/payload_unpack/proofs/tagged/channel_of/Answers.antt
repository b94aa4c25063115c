-- `channel_of` meets its promise: at most 15 bits fit the cast.
use Rattle.words.proofs.Kit.{arith}
use lib.Pow.{pow_mono}
use Rattle.payload_unpack.proofs.tagged.channel_of.Goals as goal

pub overflow_cast-result : goal.overflow_cast-result
overflow_cast-result c =
    omega (arith, pow_mono {i = c.args.p.channel} {j = 15} c.requires.channel)
