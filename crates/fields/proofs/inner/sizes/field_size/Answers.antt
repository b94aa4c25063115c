-- `field_size` meets its promise: each return is a row of `size_asked`; that the groups are document 01's rows is one test that computes.
use Rattle.words.proofs.Cases.{cases}
use Rattle.fields.proofs.SizeLaws.{size_asked}
use borrow.Author.Rules.{rules}
use Rattle.fields.proofs.inner.sizes.field_size.Goals as goal

pub returns-then-bit-gt14 : goal.returns-then-bit-gt14
returns-then-bit-gt14 c = (search (cases, size_asked), search rules)

pub returns-then-bit-eq1 : goal.returns-then-bit-eq1
returns-then-bit-eq1 c = (search (cases, size_asked), search rules)

pub returns-then-bit-eq1-2 : goal.returns-then-bit-eq1-2
returns-then-bit-eq1-2 c = (search (cases, size_asked), search rules)

pub returns : goal.returns
returns c = (search (cases, size_asked), search rules)
