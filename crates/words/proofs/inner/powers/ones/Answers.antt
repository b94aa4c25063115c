-- `ones` meets its promise: 2 ^ n is twice 2 ^ (n - 1) (`halves`).
use Rattle.words.proofs.Kit.{rules, arith}
use Rattle.words.proofs.PowerLaws.{halves}
use Rattle.words.proofs.inner.powers.ones.Goals as goal

pub returns : goal.returns
returns c = omega (arith, halves c.args.n c.requires.0)
