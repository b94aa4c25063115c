-- `next` meets its promise: the laws of set bits, at 32 bits.
use Rattle.words.proofs.Kit.{ap, length, arith, rules}
use Rattle.words.proofs.SetBitLaws.{leading_small, shift_le, bits_cleared}
use Rattle.fields.proofs.WalkLaws.{walking_some}
use Rattle.fields.proofs.inner.carried.FieldsIterator.next.Goals as goal

pub overflow_sub-bit : goal.overflow_sub-bit
overflow_sub-bit c = leading_small 31 c.args.self.now.0 (walking_some _ c.if-rest-eq0.false) (omega arith)

pub overflow_sub-self : goal.overflow_sub-self
overflow_sub-self c = shift_le 31 c.args.self.now.0 (walking_some _ c.if-rest-eq0.false) (omega arith)

pub returns-clause-steps : goal.returns-clause-steps
returns-clause-steps c =
    let cut = bits_cleared 31 c.args.self.now.0 (walking_some _ c.if-rest-eq0.false) (omega arith) in
    cut

pub returns-clause-goes : goal.returns-clause-goes
returns-clause-goes c =
    let cut = bits_cleared 31 c.args.self.now.0 (walking_some _ c.if-rest-eq0.false) (omega arith) in
    record { on = λ _. (search rules, search rules, omega (arith, ap length cut.0)); keeps = search rules; rests = search rules }
