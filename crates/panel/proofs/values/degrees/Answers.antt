-- `degrees` meets its promise: 64 is 2 ^ 6, and the quotient is exact.
use Rattle.words.proofs.Kit.{◌∙◌, arith, rules}
use lib.Dec.{lit≤}
use lib.Ieee.{of_bits}
use Rattle.words.proofs.PowerLaws.{signed_mag}
use Rattle.panel.proofs.Quotient.{quotient}
use Rattle.panel.proofs.values.degrees.Goals as goal

pub returns : goal.returns
unfolding of_bits
returns c = c.divided.ensures ∙ quotient 6 _ (lit≤ tt) (omega (arith, signed_mag 16 c.args.half (lit≤ tt) (omega arith)))
