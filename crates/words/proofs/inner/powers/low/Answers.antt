-- `low` meets its promise: a remainder by a power of two.
use Rattle.words.proofs.Kit.{rules, refl}
use native.Mathlib.Nat.{mod-lt}
use lib.Pow.{pow_pos}
use Rattle.words.proofs.inner.powers.low.Goals as goal

pub returns : goal.returns
returns c = rw c.power.ensures.0 (refl, mod-lt c.args.v (pow_pos c.args.n))
