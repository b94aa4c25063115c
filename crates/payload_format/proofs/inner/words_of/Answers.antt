-- `words_of` meets its promise: the product stays small, so that 32 bits hold it.
use Rattle.bitstream.specs.Carried.{needed}
use Rattle.words.proofs.Kit.{ℕ, ◌/◌, arith, refl}
use mir.Syntax.{w32, w64}
use mir.Val.{Fits}
use native.Mathlib.Nat.{mul-le-mul_right, div-le_self}
use Rattle.payload_format.proofs.inner.words_of.Goals as goal

-- a quotient is no larger than what was divided
quotient_fits : {x : ℕ} (d : ℕ) → Fits w32 x → Fits w64 (x / d)
quotient_fits {x} d small = omega (arith, small, div-le_self x d)

pub overflow_mul-bits : goal.overflow_mul-bits
overflow_mul-bits c = omega (arith, mul-le-mul_right c.args.n c.requires.2)

pub overflow_add-bits : goal.overflow_add-bits
overflow_add-bits c = omega (arith, mul-le-mul_right c.args.n c.requires.2)

pub overflow_cast-bits : goal.overflow_cast-bits
overflow_cast-bits c =
    omega (arith, mul-le-mul_right c.args.n c.requires.2)

pub overflow_cast-result-2 : goal.overflow_cast-result-2
overflow_cast-result-2 c = quotient_fits c.args.c (overflow_cast-bits c)

pub returns : goal.returns
unfolding needed
returns c = refl
