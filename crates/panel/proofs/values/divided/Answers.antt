-- `divided` meets its promise: a signed half is a whole number that an f32 has.
use Rattle.panel.proofs.ValueLaws.{half_in_float, half_over}
use borrow.Author.Rules.{rules}
use Rattle.panel.proofs.values.divided.Goals as goal

pub int_to_float-result : goal.int_to_float-result
int_to_float-result c = search half_in_float

pub returns : goal.returns
returns c = search half_over
