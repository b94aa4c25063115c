-- `value_of` meets its promise: `payload_format` accepts bits that fit, with their value.
use Rattle.panel.proofs.ValueLaws.{value_told, value_read}
use borrow.Author.Rules.{rules}
use Rattle.panel.proofs.values.value_of.Goals as goal

pub unwrap-requires : goal.unwrap-requires
unwrap-requires c = search value_told

pub returns : goal.returns
returns c = search value_read
